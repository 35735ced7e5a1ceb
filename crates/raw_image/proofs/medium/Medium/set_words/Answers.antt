use Rattle.std.proofs.Common.{◌+◌, ◌-◌, length, ◌∙◌, ap, arith}
use Rattle.raw_image.proofs.Common.{with_items_is, Disk, header_view}
use borrow.Rule.Slice.PartMut.{put_mid}
use Rattle.flop_base.specs.Lists.{with_items}
use Rattle.raw_image.proofs.Splices.{put_mid-with_items, put_mid-long, becomes_with}
use Rattle.raw_image.proofs.medium.Medium.set_words.Goals as goal

pub returns : goal.returns
returns c = record {
  becomes =
      let v = c.self.inside.words in
      let words = c.args.words.now in
      let at = c.start.result + c.args.start in
      let items = put_mid at (at + length words - at) c.deref_mut.result.now c.copy_from_slice.new.self in
      let long =
      put_mid-long c.deref_mut.result.now c.copy_from_slice.new.self words at (at + length words - at) c.copy_from_slice.ensures.after (omega arith)
      (omega (arith, ap length c.deref_mut.ensures.value, ap (λ (d : Disk). length d.words) c.self.view_is)) in
      let is =
      put_mid-with_items c.deref_mut.result.now c.copy_from_slice.new.self words at (at + length words - at) c.copy_from_slice.ensures.after (omega arith)
      ∙ ap (λ list. with_items list at words) c.deref_mut.ensures.value in
      becomes_with c.args.self.now (header_view c.self.inside.shape) v.items _ c.args.c c.args.h c.args.start c.start.result words
      c.self.view_is c.self.invariant (λ k. omega (arith, c.type_inv.words k)) c.requires.track c.requires.within c.start.ensures.place c.start.ensures.within
      (with_items_is v items (long ∙ c.deref_mut.ensures.len) ∙ is);
}
