-- What is proved of a run over a machine.
use Rattle.std.proofs.Common.{◌≡◌, List, refl, sym, subst}
use Rattle.flop_base.specs.Counters.{DriveCounts}
use Rattle.floppy_tools.proofs.Common.{Board, State, start_of, ShowsStation, Starts, IsSetUp}
use Rattle.sector_model.specs.Stations.{StationState, IsFresh}

pub set_up_shown : (board : Board) (spares : List DriveCounts) (state : State) (station : StationState) → state ≡ start_of station → IsFresh station → Starts board spares station → IsSetUp board spares state
set_up_shown board spares state station is fresh starts =
    subst (λ (s : State). IsSetUp board spares s) (sym is) (record { names = refl; fresh = fresh; starts = starts })

pub shows_as : (board : Board) (shown station : StationState) → shown ≡ station → ShowsStation board shown → ShowsStation board station
shows_as board shown station is shows = subst (λ (s : StationState). ShowsStation board s) is shows
