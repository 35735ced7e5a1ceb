-- What is known of the words that a write or a FORMAT wrote, and what its results say.
use Rattle.std.specs.Prelude.{◌≡◌, ℕ, Bool, List}
use Rattle.fdc_core.specs.Common.{Results, Chrn, Past, Ending, Done, Numbers, LaysFirst, LaysWhole, IsResultKey, WritesFirst, WritesWhole, HasCause, results_of, Sent, results_sent, Long, Phase, Result}
use Rattle.fdc_stages.specs.Formats as formats
use Rattle.fdc_phases.specs.Written.{IsContent}
use Rattle.fdc_core.specs.declared.controller.Fdc.{Fdc}

-- ---- WRITE DATA and WRITE DELETED

-- either no word was written, or the words are the first of the window of an address field of the key, at its place,
-- with this mark. Its content begins with the first of the bytes that were taken. After an early terminal count, all
-- bytes that were taken come first, and then bytes 00. What follows these in the content may be anything
abbrev pub WritesWindow : Past → Sent → Bool → Type 0
WritesWindow past sent deleted =
    (handed : List ℕ) × IsContent past.counted past.taken handed × WritesFirst past sent.key deleted handed

-- with IC 00 the window is whole. For other endings this says nothing
abbrev pub WholeIfDone : Past → Chrn → Bool → List ℕ → Ending → Type 0
WholeIfDone past key deleted handed (Done _) = WritesWhole past key deleted handed
WholeIfDone past key deleted handed _ = Unit {0}

pub record WriteMeans (past : Past) (sent : Sent) (deleted : Bool) (ending : Ending) (results : Results) : Type 0 where
  pub results_are : results ≡ results_sent ending sent
  pub handed : List ℕ
  pub content : IsContent past.counted past.taken handed
  pub first : WritesFirst past sent.key deleted handed
  pub cause : HasCause past sent.key deleted handed ending
  pub whole : WholeIfDone past sent.key deleted handed ending

abbrev pub WriteMeansIn : Past → Sent → Bool → Phase → Type 0
WriteMeansIn past sent deleted (Result (Long ending results _)) = WriteMeans past sent deleted ending results
WriteMeansIn past sent deleted _ = Unit {0}

abbrev pub WriteTells : Past → Sent → Bool → Fdc → Type 0
WriteTells past sent deleted fdc = WriteMeansIn past sent deleted fdc.phase

-- ---- FORMAT TRACK

-- the words are the first of the layout of some keys. The bytes of these keys begin with the first of the bytes that
-- were taken. After an early terminal count, all bytes that were taken come first, and then bytes 00. What follows
-- these in the keys may be anything
abbrev pub LaysTrack : Past → Numbers → Type 0
LaysTrack past numbers = (handed : List ℕ) × IsContent past.counted past.taken handed × LaysFirst past numbers handed

abbrev pub LaidIfDone : Past → Numbers → List ℕ → Ending → Type 0
LaidIfDone past numbers handed (Done _) = LaysWhole past numbers handed
LaidIfDone past numbers handed _ = Unit {0}

pub record FormatMeans (past : Past) (sent : ℕ) (numbers : Numbers) (ending : Ending) (results : Results) : Type 0 where
  pub results_are : results ≡ results_of ending sent results.key
  pub handed : List ℕ
  pub key : IsResultKey numbers handed ending results.key
  pub content : IsContent past.counted past.taken handed
  pub first : LaysFirst past numbers handed
  pub cause : formats.HasCause past numbers handed ending
  pub whole : LaidIfDone past numbers handed ending

abbrev pub FormatMeansIn : Past → ℕ → Numbers → Phase → Type 0
FormatMeansIn past sent numbers (Result (Long ending results _)) = FormatMeans past sent numbers ending results
FormatMeansIn past sent numbers _ = Unit {0}

abbrev pub FormatTells : Past → ℕ → Numbers → Fdc → Type 0
FormatTells past sent numbers fdc = FormatMeansIn past sent numbers fdc.phase
