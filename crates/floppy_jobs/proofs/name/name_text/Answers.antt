use Rattle.std.proofs.Common.{ap, ◌∙◌, rules, tests}
use Rattle.std.specs.Option.{option_copied}
use Rattle.floppy_jobs.proofs.NameLemmas.{name_read}
use Rattle.floppy_jobs.specs.Names.{name_of}
use Rattle.floppy_jobs.proofs.name.name_text.Goals as goal

pub returns-then-is_name : goal.returns-then-is_name
returns-then-is_name c =
    ap option_copied c.ok.ensures.value ∙ name_read _ c.args.bytes.now c.from_utf8.result (cc) c.from_utf8.ensures.cases

pub returns-else-is_name : goal.returns-else-is_name
unfolding name_of
returns-else-is_name c = search (rules, tests)
