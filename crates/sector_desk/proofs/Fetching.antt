-- The content of a field that was read.
use Rattle.std.proofs.Common.{◌≡◌, ◌*◌, ◌^◌, ◌≤◌, ℕ, Bool, true, List, length, sym, ap, ◌∙◌, arith, Option, Some, None}
use Rattle.std.specs.Prelude.{MatchOption, Ok, Err, Result, IfOk, is_err}
use mathlib.Core.Bool.{false≢true}
use Rattle.std.proofs.lemmas.List.FromFn.{length-map-range_with_len}
use Rattle.flop_base.specs.declared.answers.Code.{Code}
use Rattle.flop_base.specs.declared.key.Chrn.{Chrn}
use Rattle.sector_desk.proofs.Common.{bytes_from, user_bytes, read_refusal, IsRefusedAtOnce, StationState, sector_place}
use Rattle.track_model.specs.Fields.{content_size}
use Rattle.sector_model.specs.Reads.{IsRead, Reads, ReadsDrive}
use Rattle.sector_desk.proofs.Placing.{at_stands}

-- a read that was answered reached the drive
reached : (refusal : Option Code) (bay : ℕ) (key : Chrn) (old : StationState) (deleted : Bool) (new : StationState)
    → MatchOption refusal (ReadsDrive bay key sector_place old (Ok deleted) new) (λ code. IsRefusedAtOnce code old (Ok deleted) new)
    → IsRead bay key sector_place old deleted new
reached None bay key old deleted new reads = reads.found
reached (Some code) bay key old deleted new refused = let none = refused.refused in absurd cc

-- a read that was refused gives no content
pub none_had : (P : Bool → Type 0) (answer : Result Bool Code) → is_err answer ≡ true → IfOk answer P
none_had P (Ok deleted) is = absurd (false≢true is)
none_had P (Err code) is = tt

-- the bytes at the desk's place are the content of the field
pub content_had : (bay : ℕ) (key : Chrn) (old : StationState) (answer : Result Bool Code) (new : StationState) (content : List ℕ) (count : ℕ)
    → Reads bay key sector_place old answer new → count ≡ content_size key.n → count ≤ 8192 → length old.memory ≡ user_bytes
    → content ≡ bytes_from new.memory sector_place count
    → IfOk answer (λ deleted. (field : IsRead bay key sector_place old deleted new) × (content ≡ field.content))
content_had bay key old (Err code) new content count reads size most room fetched = tt
content_had bay key old (Ok deleted) new content count reads size most room fetched =
    let field : IsRead bay key sector_place old deleted new = reached (read_refusal old bay key sector_place) bay key old deleted new reads in
    let long : length field.content ≡ 128 * 2 ^ key.n = ap length field.whole.content_is ∙ length-map-range_with_len _ 0 (128 * 2 ^ key.n) in
    let counted : count ≡ length field.content = size ∙ sym long in
    let stands : bytes_from new.memory sector_place (length field.content) ≡ field.content =
    ap (λ (s : StationState). bytes_from s.memory sector_place (length field.content)) field.becomes
    ∙ at_stands old.memory sector_place field.content (omega (arith, counted, most, room)) in
    (field, fetched ∙ ap (bytes_from new.memory sector_place) counted ∙ stands)
