use Rattle.fdc_stages.proofs.writing_laws.formatted_is_first.Goals as goal

pub returns : goal.returns
returns c = λ past numbers handed formatted. formatted.begun.first
