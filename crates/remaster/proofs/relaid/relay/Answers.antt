use Rattle.std.proofs.Common.{arith, ap, sym, subst, ◌∙◌, ◌≡◌, ℕ, length, drop, All}
use Rattle.remaster.proofs.Common.{take_at, All-map, Chrn, standard_fill, lay, IsSpaced, key_of}
use Rattle.remaster.proofs.Relays.{AreWritten, none_written, one_more, spaced_from, all_written}
use Rattle.remaster.proofs.relaid.relay.Goals as goal

pub lay_reads-requires-clause-asked : goal.lay_reads-requires-clause-asked
lay_reads-requires-clause-asked c =
    subst (All (λ (key : Chrn). key.n ≡ c.args.n)) (sym (c.deref.ensures.value ∙ c.in_ok-keys.ensures.keys))
    (All-map (λ (key : Chrn). key.n ≡ c.args.n) key_of c.args.sectors.now c.requires.planned.one_size)

pub loop-i-init : goal.loop-i-init
loop-i-init c =
    none_written c.args.rate c.args.c c.args.h c.args.n c.args.gap3 c.args.sectors.now c.requires.planned c.deref.result.now (c.deref.ensures.value ∙ c.in_ok-keys.ensures.keys)
    c.from-words.result c.in-Ok.track.items (omega (arith, c.from-words.ensures, c.words.ensures))
    (c.in-Ok.ensures.laid ∙ ap (λ keys. lay keys c.args.n c.args.gap3 standard_fill c.from-words.result) (c.deref-2.ensures.value ∙ sym c.deref.ensures.value)) c.lay_reads.ensures.fields c.lay_reads.ensures.regular

pub write_sector-requires-clause-spaced : goal.write_sector-requires-clause-spaced
write_sector-requires-clause-spaced c =
    subst IsSpaced (sym c.deref_mut.ensures.value) (spaced_from c.loop-i.track.items c.args.c c.args.h c.loop-i.invariant.regular)

pub loop-i-preserved : goal.loop-i-preserved
loop-i-preserved c =
    one_more c.args.rate c.args.c c.args.h c.args.n c.args.gap3 c.args.sectors.now c.loop-i.i c.loop-i.track.items c.loop-i.invariant
    c.index-sectors-i.result c.place_of.result c.deref_mut.result.now c.write_sector.new.track _ (omega arith) c.deref_mut.ensures.value c.place_of.ensures c.index-sectors-i.is
    (take_at c.write_sector.new.track (drop (length c.write_sector.new.track) c.loop-i.track.items) c.loop-i.track.len (omega (arith, c.write_sector.auto.track, c.deref_mut.ensures.len))) c.write_sector.auto.track
    c.in_ok-write_sector.ensures.written c.in_ok-write_sector.ensures.keeps c.in_ok-write_sector.ensures.holds

pub returns-clause-sectors : goal.returns-clause-sectors
returns-clause-sectors c =
    let last : c.loop-i.i ≡ length c.args.sectors.now = omega arith in
    all_written c.args.rate c.args.c c.args.h c.args.n c.args.gap3 c.args.sectors.now c.loop-i.track.items
    (subst (λ (k : ℕ). AreWritten c.args.rate c.args.c c.args.h c.args.n c.args.gap3 c.args.sectors.now k c.loop-i.track.items) last c.loop-i.invariant)
