use Rattle.test_driver.proofs.bench.Bench.new.Goals as goal

pub returns : goal.returns
returns c = rw c.new.ensures (record { first = λ _. c.empty.ensures.changed; second = λ _. c.empty-2.ensures.changed })
