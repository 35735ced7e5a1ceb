use Rattle.std.proofs.Common.{arith, refl, rules, ◌≡◌, ap, sym, ◌∙◌, ◌+◌, ◌-◌, ◌*◌, ◌/◌, ◌<◌, length, take, drop, ℕ, min}
use Rattle.commands.proofs.Common.{grown}
use Rattle.commands.proofs.DumpLines.{grown-nothing, lines_below, lines-none, lines-all, line-put, line-cut, row_of-line, on_err}
use Rattle.commands.proofs.lines.put_dump.Goals as goal

pub loop-i-init : goal.loop-i-init
loop-i-init g c = record {
  told = sym (ap (grown (g.K.Sink.told c.args.out.now)) (lines-none c.args.address c.args.content.now) ∙ grown-nothing (g.K.Sink.told c.args.out.now));
  place = omega (arith, c.ranges.address);
  counts = refl;
}

pub returns-in_err-put_row : goal.returns-in_err-put_row
returns-in_err-put_row g c =
    let within : c.loop-i.i < (length c.args.content.now + 15) / 16 = omega (arith, c.loop-i-test.true, c.div_ceil-i-end.ensures) in
    let end : c.min-end.result ≡ min (length c.args.content.now) (16 * c.loop-i.i + 16) = omega (arith, c.min-end.ensures) in
    record {
      ok = search rules;
      err = on_err c.from_residual.result (line-cut (g.K.Sink.told c.args.out.now) (g.K.Sink.told c.loop-i.out) (g.K.Sink.told c.put_row.new.out) c.args.address c.loop-i.place c.loop-i.i c.args.content.now _ c.loop-i.invariant.told c.loop-i.invariant.place (row_of-line c.args.content.now _ c.loop-i.i (ap (λ (m : ℕ). take (m - 16 * c.loop-i.i) (drop (16 * c.loop-i.i) c.args.content.now)) end)) within c.in_err-put_row.ensures.err);
      only = search rules;
      faults = search rules;
    }

pub loop-i-preserved : goal.loop-i-preserved
loop-i-preserved g c = let end : c.min-end.result ≡ min (length c.args.content.now) (16 * c.loop-i.i + 16) = omega (arith, c.min-end.ensures) in record {
  told = line-put (g.K.Sink.told c.args.out.now) (g.K.Sink.told c.loop-i.out) (g.K.Sink.told c.put_row.new.out) c.args.address c.loop-i.place c.loop-i.i c.args.content.now _ c.loop-i.invariant.told c.loop-i.invariant.place (row_of-line c.args.content.now _ c.loop-i.i (ap (λ (m : ℕ). take (m - 16 * c.loop-i.i) (drop (16 * c.loop-i.i) c.args.content.now)) end)) c.in_ok-put_row.ensures.ok;
  place = omega (arith, c.loop-i.invariant.place);
  counts = search rules;
}

pub returns : goal.returns
returns g c =
    let end : c.loop-i.i ≡ (length c.args.content.now + 15) / 16 = omega (arith, c.loop-i-test.false, c.div_ceil-i-end.ensures) in
    record {
      ok = c.loop-i.invariant.told ∙ ap (λ (k : ℕ). grown (g.K.Sink.told c.args.out.now) (lines_below c.args.address c.args.content.now k)) end ∙ ap (grown (g.K.Sink.told c.args.out.now)) (lines-all c.args.address c.args.content.now);
      err = search rules;
      only = search rules;
      faults = search rules;
    }
