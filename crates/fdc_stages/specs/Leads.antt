-- How many words of a format pass before a byte of a sector ID is needed.
use Rattle.std.specs.Prelude.{ℕ, ◌-◌, ◌≤◌, List, length}
use Rattle.fdc_stages.specs.Common.{FormatStream}
use Rattle.fdc_stages.specs.declared.formatting.FormatStage.{FormatStage}
use Rattle.fdc_stages.specs.declared.formatting.FormatNext.{FormatNext}
use Rattle.fdc_stages.specs.declared.formatting.FormatNext.TheVariants.{On, Ended}
use Rattle.fdc_stages.specs.Formats.{Numbers, IsLaid}

-- at least this many words come from the stream before it needs a byte. The first byte that it needs is that of the
-- 163rd word of a layout. Of later bytes nothing is said
pub record StreamLeads (stream : FormatStream) (lead : ℕ) : Type 0 where
  pub numbers : Numbers
  pub words : List ℕ
  pub handed : List ℕ
  pub laid : IsLaid words numbers handed stream
  pub most : lead ≤ 162 - length words

-- at least this many words are written before a byte is needed
abbrev pub HasLead : FormatStage → ℕ → Type 0
HasLead now lead = StreamLeads now.stream lead

abbrev pub LeadsOn : ℕ → FormatNext → Type 0
LeadsOn lead (On now) = HasLead now lead
LeadsOn lead (Ended ending key) = Unit {0}
