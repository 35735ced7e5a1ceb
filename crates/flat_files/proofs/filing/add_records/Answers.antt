use Rattle.std.proofs.Common.{◌≡◌, ℕ, arith, subst}
use Rattle.flat_files.proofs.Common.{AddsRecords, cylinder_of, head_of}
use Rattle.flat_files.proofs.Filed.{more_records, more_tracks, next_lacks, no_records}
use Rattle.flat_files.proofs.filing.add_records.Goals as goal

pub loop-i-init : goal.loop-i-init
loop-i-init c =
    let form = c.args.form in
    no_records c.args.tracks.now form.n (cylinder_of form c.args.track) (head_of form c.args.track) c.args.bytes.now.items

pub loop-i-preserved : goal.loop-i-preserved
loop-i-preserved c =
    let form = c.args.form in
    more_records c.args.tracks.now form.n (cylinder_of form c.args.track) (head_of form c.args.track) c.loop-i.i c.args.bytes.now.items c.loop-i.bytes.items
    c.extend_from_slice.new.self.items c.in-Some.added.now c.loop-i.invariant
    (rw (c.cylinder-c.ensures.value, c.head-h.ensures.value) at c.in-Some.ensures) c.in_ok-extend_from_slice.ensures.items

pub returns-in_default : goal.returns-in_default
returns-in_default c =
    rw (c.cylinder-c.ensures.value, c.head-h.ensures.value)
    (next_lacks c.args.tracks.now c.args.form c.args.track c.loop-i.i c.args.bytes.now.items c.loop-i.bytes.items c.requires.form c.requires.there
    c.loop-i-test.true c.requires.before c.requires.plain c.loop-i.invariant
    (rw (c.cylinder-c.ensures.value, c.head-h.ensures.value) at c.in_default.ensures))

pub returns : goal.returns
returns c =
    let form = c.args.form in
    let end : c.loop-i.i ≡ form.sectors = omega arith in
    more_tracks c.args.tracks.now form c.args.track c.args.bytes.now.items c.loop-i.bytes.items c.requires.before c.requires.plain
    (subst (λ (n : ℕ). AddsRecords c.args.tracks.now form.n (cylinder_of form c.args.track) (head_of form c.args.track) n c.args.bytes.now.items c.loop-i.bytes.items) end c.loop-i.invariant)
