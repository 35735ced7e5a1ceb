use Rattle.std.proofs.Common.{◌≡◌, ◌≤◌, ◌+◌, ◌-◌, length, drop, refl, sym, ap, ◌∙◌, arith}
use Rattle.test_driver.proofs.Common.{with_items_is, length-take, length-drop, content_size}
use borrow.Rule.Slice.PartMut.{put_mid}
use Rattle.test_driver.proofs.ReadSteps.{put_bytes, length-with_items, reads_data}
use Rattle.test_driver.proofs.bench.Bench.read_to_memory.Goals as goal

pub returns : goal.returns
returns c =
    let self = c.args.self.now in
    let memory = self.memory.items in
    let content = c.read.new.content in
    let a = c.args.address in
    let k = a + c.sector_size.result - a in
    let within = c.requires.range in
    let user = self.user in
    let fits : a + content_size c.args.key.n ≤ length memory = omega arith in
    let size : length content ≡ content_size c.args.key.n =
    omega (arith, length-take k (drop a c.deref_mut.result.now), length-drop a c.deref_mut.result.now, ap length c.deref_mut.ensures.value, c.sector_size.ensures.size) in
    let room : a + length content ≤ length memory = omega arith in
    let put = put_bytes c.deref_mut.result.now memory content a k c.deref_mut.ensures.value (omega (arith, c.sector_size.ensures.size)) in
    let long = ap length put ∙ length-with_items memory a content room ∙ ap length (sym c.deref_mut.ensures.value) ∙ c.deref_mut.ensures.len in
    reads_data self.drives memory self.page.items _ self.page.items self.counts c.send.new.self c.send.ensures c.args.bay c.args.key c.args.rate c.get.result.now content
    c.get.ensures size c.read.result a (with_items_is self.memory (put_mid a k c.deref_mut.result.now content) long ∙ put) fits refl c.read.ensures.found c.read.ensures.refused
