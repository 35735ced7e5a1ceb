-- What a call did to a machine on a bench, with the faults that file store (shelf) and output (sink) counted.
use Rattle.std.specs.Prelude.{◌≡◌, ◌≢◌, ℕ, Bool, List, Option, Result, Err, IsErrOf}
use Rattle.text_commands.specs.Common.{Files, Status, DriveState, MachineOf, Stop, Blames}
use Rattle.flop_base.specs.declared.answers.Status.TheVariants as status
use Rattle.sector_model.specs.declared.reply.Stop.TheVariants as stop
use Rattle.text_commands.specs.Benches.{AreNamed, Bench, Names, bench_of}
use Rattle.text_commands.specs.PortPlays.{World, world_of}

-- ---- Calls that aren't given the output.

-- a bench, with the faults that its file store counted
pub record FaultyBench : Type 0 where
  pub bench : Bench
  pub faults : ℕ

abbrev pub faulty_bench_of : {D S : Type 0} → (D → DriveState) → (S → Option Files) → (S → ℕ) → MachineOf D → Names → S → FaultyBench
faulty_bench_of state files shelf_count machine names shelf =
    record { bench = bench_of state files machine names shelf; faults = shelf_count shelf }

-- a call did this or stopped, and a bay has a name if and only if a medium is in. If the result reports a fault of the
-- file store, it was counted once; else no fault was counted
pub record Handled {T : Type 0} (Does : Bench → Result T Stop → Bench → Type 0) (old : FaultyBench) (result : Result T Stop) (new : FaultyBench) : Type 0 where
  pub does : Does old.bench result new.bench
  pub named : AreNamed new.bench.names new.bench.board
  pub shelf_faults : Blames (IsErrOf result stop.FileFault) old.faults new.faults

-- ---- Calls that are given the output, too.

-- a world, with the faults that its file store and its output counted
pub record Faulty : Type 0 where
  pub world : World
  pub shelf_faults : ℕ
  pub sink_faults : ℕ

abbrev pub faulty_of : {D S K : Type 0} → (D → DriveState) → (S → Option Files) → (S → ℕ) → (K → Option (List (List ℕ))) → (K → ℕ)
    → MachineOf D → Names → S → K → Faulty
faulty_of state files shelf_count report sink_count machine names shelf out = record {
  world = world_of state files report machine names shelf out;
  shelf_faults = shelf_count shelf;
  sink_faults = sink_count out;
}

-- a run did this, and its arguments (words) were a subcommand (form). If its status reports a fault, it was counted
-- once; else no fault was counted
pub record Ran (Does : World → World → Status → Type 0) (old new : Faulty) (ended : Status) : Type 0 where
  pub does : Does old.world new.world ended
  pub is_form : ended ≢ status.BadWords
  pub shelf_faults : Blames (ended ≡ status.FileFault) old.shelf_faults new.shelf_faults
  pub sink_faults : Blames (ended ≡ status.SinkFault) old.sink_faults new.sink_faults

-- some lines of a run did this, and their error is the status. The other clauses are those of a run, and a bay has a
-- name if and only if a medium is in
pub record RanPart (Goes : World → Result Bool Status → World → Type 0) (old : Faulty) (result : Result Bool Status) (new : Faulty) : Type 0 where
  pub goes : Goes old.world result new.world
  pub named : AreNamed new.world.bench.names new.world.bench.board
  pub is_form : result ≢ Err status.BadWords
  pub shelf_faults : Blames (IsErrOf result status.FileFault) old.shelf_faults new.shelf_faults
  pub sink_faults : Blames (IsErrOf result status.SinkFault) old.sink_faults new.sink_faults
