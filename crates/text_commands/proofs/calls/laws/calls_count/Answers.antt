use Rattle.text_commands.proofs.CallCounting.{call_counts}
use Rattle.text_commands.proofs.calls.laws.calls_count.Goals as goal

pub returns : goal.returns
returns c = λ status regs answered old new told kept course serves. call_counts _ old new told course serves.code serves.moved serves.work
