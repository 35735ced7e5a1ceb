use Rattle.std.proofs.Common.{◌≡◌, ◌+◌, refl, sym, arith}
use Rattle.track_separator.proofs.Common.{with_word}
use Rattle.track_separator.proofs.Next.{more_of}
use Rattle.track_separator.proofs.Read.{read_check, read_end, tells_whole}
use Rattle.track_separator.proofs.state.Separator.read_check.Goals as goal

pub returns-then-taken-size : goal.returns-then-taken-size
returns-then-taken-size c = λ fed p q deleted was. (
  c.if-taken-size.true,
  (
    refl,
    refl,
    read_check fed c.args.word (with_word fed c.args.word) (more_of fed c.args.word) c.args.self.now.cells c.args.self.now.back c.shifted-self.result p q deleted c.args.size c.args.taken c.args.check c.args.before c.is_touched-touched.result c.args.self.now.few c.shifted-self.ensures c.is_touched-touched.ensures.clean c.is_touched-touched.ensures.touched was c.if-taken-size.true,
  ),
)

pub returns : goal.returns
returns c = λ fed p q deleted was.
    let most = was.most in
    let over : c.args.taken ≡ c.args.size + 1 = omega arith in (
      over,
      read_end fed c.args.word (with_word fed c.args.word) (more_of fed c.args.word) c.args.self.now.cells c.args.self.now.back c.shifted-self.result p q deleted c.args.size c.args.taken c.args.check c.args.before c.is_touched-touched.result c.args.self.now.few c.shifted-self.ensures c.is_touched-touched.ensures.clean c.is_touched-touched.ensures.touched was over,
      tells_whole fed c.args.word (with_word fed c.args.word) (more_of fed c.args.word) c.args.self.now.cells c.args.self.now.back c.shifted-self.result p q deleted c.args.size c.args.taken c.args.check c.args.before c.is_touched-touched.result c.args.self.now.few c.shifted-self.ensures c.is_touched-touched.ensures.clean c.is_touched-touched.ensures.touched was over c.is_good-good.result c.ranges.check.fits
          (rw (sym c.check_before.ensures) c.is_good-good.ensures),
      c.hunt.ensures.hunts (with_word fed c.args.word),
    )
