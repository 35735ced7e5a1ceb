use Rattle.std.proofs.Common.{◌≡◌, ◌+◌, ◌<◌, ◌∷◌, ◌++◌, [], ℕ, refl, sym, arith, ap, ◌∙◌, take, drop, get_or, List, length, length-drop}
use Rattle.sector_desk.proofs.Common.{take_more, take_all, get_or-drop, length-set, sector_place, station_of}
use Rattle.std.proofs.lemmas.Grind.{take-set_at}
use Rattle.sector_desk.proofs.desk.SectorDesk.fetch.Goals as goal

pub loop-i-init : goal.loop-i-init
loop-i-init c = record { fetched = refl; long = refl }

pub loop-i-preserved : goal.loop-i-preserved
loop-i-preserved c =
    let memory : List ℕ = (station_of c.args.self.now).memory in
    let behind : List ℕ = drop sector_place memory in
    let room = c.memory.ensures.size in
    let inside : c.loop-i.i < length behind = omega (arith, length-drop sector_place memory, room) in
    let byte : get_or behind c.loop-i.i 0 ≡ c.memory.result = get_or-drop sector_place memory c.loop-i.i 0 ∙ sym c.memory.ensures.byte in
    record {
      fetched = take-set_at c.loop-i.content c.loop-i.i (c.loop-i.i + 1) c.memory.result refl (omega (arith, c.loop-i.invariant.long))
          ∙ ap (λ (r : List ℕ). r ++ c.memory.result ∷ []) c.loop-i.invariant.fetched
          ∙ ap (λ (b : ℕ). take c.loop-i.i behind ++ b ∷ []) (sym byte)
          ∙ sym (take_more behind c.loop-i.i 0 inside);
      long = length-set c.loop-i.content c.loop-i.i c.memory.result ∙ c.loop-i.invariant.long;
    }

pub returns : goal.returns
returns c =
    let end : c.loop-i.i ≡ length c.args.content.now = omega arith in
    sym (take_all c.loop-i.i c.loop-i.content (omega (arith, c.loop-i.invariant.long)))
    ∙ c.loop-i.invariant.fetched
    ∙ ap (λ (n : ℕ). take n (drop sector_place (station_of c.args.self.now).memory)) end
