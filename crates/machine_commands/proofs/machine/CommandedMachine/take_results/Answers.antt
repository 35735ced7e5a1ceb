use Rattle.machine_commands.proofs.machine.CommandedMachine.take_results.Goals as goal

pub returns-clause-takes : goal.returns-clause-takes
returns-clause-takes g c = record {
  st0 = _;
  after_st0 = _;
  first = c.result_byte-st0.ensures.takes;
  st1 = _;
  after_st1 = _;
  second = c.result_byte-st1.ensures.takes;
  st2 = _;
  after_st2 = _;
  third = c.result_byte-st2.ensures.takes;
  key = c.take_key-key.result;
  keys = c.take_key-key.ensures.takes;
  is = c.outcome.ensures;
}
