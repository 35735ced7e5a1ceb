-- What a bench shows of itself.
use Rattle.std.specs.Prelude.{ℕ, ◌-◌, [], List, None}
use Rattle.test_driver.specs.Common.{Two, last_count, DriveCounts, Counters, Rig}
use Rattle.test_driver.specs.declared.counts.BenchCounts.{BenchCounts}
use Rattle.test_driver.specs.declared.drive.BenchDrive.{BenchDrive}
use Rattle.test_driver.specs.declared.bench.Bench.{Bench}

-- the faults of a drive, as it shows them; it doesn't say how many are left
abbrev pub faults_shown : BenchDrive → DriveCounts
faults_shown drive = record { faults = drive.faults; left = None }

-- no spare drives, nothing past the driver, no device steps, and no gaps
abbrev pub counters_of : Two BenchDrive → BenchCounts → Counters
counters_of drives counts = record {
  drives = record { first = faults_shown drives.first; second = faults_shown drives.second };
  spares = [];
  stalls = counts.stalls;
  stalls_left = last_count - counts.stalls;
  data_commands = counts.commands;
  taken = counts.taken;
  direct = 0;
  clock = 0;
  gaps = 0;
}

abbrev pub rig_of : Two BenchDrive → List ℕ → List ℕ → BenchCounts → Rig
rig_of drives memory page counts = record {
  media = record { first = drives.first.medium; second = drives.second.medium };
  cylinders = record { first = drives.first.cylinder; second = drives.second.cylinder };
  numbers = record { first = drives.first.number; second = drives.second.number };
  changes = record { first = drives.first.changed; second = drives.second.changed };
  spun = record { first = drives.first.at_speed; second = drives.second.at_speed };
  memory = memory;
  page = page;
  counters = counters_of drives counts;
}

abbrev pub rig_shown : Bench → Rig
rig_shown bench = rig_of bench.drives bench.memory.items bench.page.items bench.counts
