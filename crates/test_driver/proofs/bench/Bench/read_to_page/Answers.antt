use Rattle.std.proofs.Common.{◌≡◌, ◌≤◌, ◌+◌, ◌-◌, length, drop, refl, sym, ap, ◌∙◌, arith}
use Rattle.test_driver.proofs.Common.{with_items_is, length-take, length-drop, content_size, content_size_bound}
use borrow.Rule.Slice.PartMut.{put_mid}
use Rattle.test_driver.proofs.ReadSteps.{put_bytes, length-with_items, reads_back}
use Rattle.test_driver.proofs.bench.Bench.read_to_page.Goals as goal

pub returns : goal.returns
returns c =
    let self = c.args.self.now in
    let page = self.page.items in
    let content = c.read.new.content in
    let k = c.sector_size.result - 0 in
    let paged = self.paged in
    let bound = content_size_bound c.args.key.n c.requires.coded.1 in
    let size : length content ≡ content_size c.args.key.n =
    omega (arith, length-take k (drop 0 c.deref_mut.result.now), length-drop 0 c.deref_mut.result.now, ap length c.deref_mut.ensures.value, c.sector_size.ensures.size) in
    let room : 0 + length content ≤ length page = omega arith in
    let put = put_bytes c.deref_mut.result.now page content 0 k c.deref_mut.ensures.value (omega (arith, c.sector_size.ensures.size)) in
    let long = ap length put ∙ length-with_items page 0 content room ∙ ap length (sym c.deref_mut.ensures.value) ∙ c.deref_mut.ensures.len in
    reads_back self.drives self.memory.items page self.memory.items _ self.counts c.send.new.self c.send.ensures c.args.bay c.args.key c.args.rate c.get.result.now content
    c.get.ensures size c.read.result (with_items_is self.page (put_mid 0 k c.deref_mut.result.now content) long ∙ put) refl c.read.ensures.found c.read.ensures.refused
