use Rattle.std.proofs.Common.{◌<◌, arith, subst, ℕ, List, slice_index}
use Rattle.test_driver.proofs.Common.{IsDisk}
use Rattle.test_driver.proofs.Rigs.{if_some}
use Rattle.test_driver.proofs.bench.Bench.keep_ranges.Goals as goal

pub returns : goal.returns
returns c =
    let self = c.args.self.now in
    let Ranged : List ℕ → Type 0 = λ bytes. (k : ℕ) → slice_index bytes k < 256 in
    record {
      first = if_some self.drives.first.medium IsDisk self.drives.first.valid;
      second = if_some self.drives.second.medium IsDisk self.drives.second.valid;
      memory = record { length = self.user; bytes = subst Ranged c.as_slice.ensures.value c.keep_bytes.ensures };
      page = record { length = self.paged; bytes = subst Ranged c.as_slice-2.ensures.value c.keep_bytes-2.ensures };
      first_cylinder = let reach = self.drives.first.reachable in omega arith;
      second_cylinder = let reach = self.drives.second.reachable in omega arith;
    }
