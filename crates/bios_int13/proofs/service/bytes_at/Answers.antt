use Rattle.std.proofs.Common.{◌≡◌, ◌+◌, ◌<◌, ◌∷◌, ◌++◌, [], ℕ, refl, sym, arith, ap, ◌∙◌, take, drop, get_or, List, length, length-drop}
use Rattle.bios_int13.proofs.Common.{take_more, take_all, get_or-drop, length-set, take-set_at}
use Rattle.bios_int13.proofs.service.bytes_at.Goals as goal

pub loop-i-preserved : goal.loop-i-preserved
loop-i-preserved g c =
    let memory : List ℕ = c.args.session.now.station.memory in
    let behind : List ℕ = drop c.args.address memory in
    let inside : c.loop-i.i < length behind = omega (arith, length-drop c.args.address memory, c.loop-i.invariant.room) in
    let byte : get_or behind c.loop-i.i 0 ≡ c.memory.result = get_or-drop c.args.address memory c.loop-i.i 0 ∙ rw (← c.station-station.ensures.shown)
    (sym c.memory.ensures.byte) in
    record {
      kept = take-set_at c.loop-i.kept c.loop-i.i (c.loop-i.i + 1) c.memory.result refl (omega (arith, c.loop-i.invariant.long))
          ∙ ap (λ (r : List ℕ). r ++ c.memory.result ∷ []) c.loop-i.invariant.kept
          ∙ ap (λ (b : ℕ). take c.loop-i.i behind ++ b ∷ []) (sym byte)
          ∙ sym (take_more behind c.loop-i.i 0 inside);
      long = length-set c.loop-i.kept c.loop-i.i c.memory.result ∙ c.loop-i.invariant.long;
      room = c.loop-i.invariant.room;
    }

pub returns-clause-bytes : goal.returns-clause-bytes
returns-clause-bytes g c =
    let end : c.loop-i.i ≡ 512 = omega arith in
    sym (take_all c.loop-i.i c.loop-i.kept (omega (arith, c.loop-i.invariant.long))) ∙ c.loop-i.invariant.kept ∙ ap
    (λ (n : ℕ). take n (drop c.args.address c.args.session.now.station.memory)) end
