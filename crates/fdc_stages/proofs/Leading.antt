-- The first byte of a sector ID that a layout needs is the one of its 163rd word.
use Rattle.std.proofs.Common.{◌≡◌, ℕ, zero, suc, ◌+◌, ◌-◌, ◌<◌, ◌≤◌, Bool, true, false, List, [], ◌∷◌, ◌++◌, length, drop, refl, sym, ap, subst, ◌∙◌, append_assoc, arith, length-append, inl, inr}
use Rattle.fdc_stages.proofs.Common.{cases_lt, drop_all, Chrn, Symbol, Byte, Key, content_size, sync, marks, track_symbols, next_symbol, with_word, AsksKey, FormatStream, handed_with, Numbers, keys_from, symbols_of, StreamTakes, StreamLeads}
use Rattle.track_model.specs.declared.symbol.Symbol.TheVariants.{Mark}
use Rattle.track_model.specs.Layouts.{field_symbols, before_sectors, sectors_symbols}
use Rattle.track_format.specs.Keys.{asked_in}
use Rattle.track_format.specs.Streams.{Gives}
use Rattle.fdc_stages.proofs.Keyed.{some_keys}
use Rattle.fdc_stages.proofs.Laying.{Goes, fresh_laid, next_laid, length-before}

-- symbols that ask for no byte hold no byte of a sector ID
none_asked : (front back : List Symbol) (k key : ℕ) → asked_in front ≡ [] → k < length front → next_symbol (drop k (front ++ back)) ≡ Key key → ⊥
unfolding asked_in
none_asked [] back k key none within is = absurd (omega arith)
none_asked (Byte byte ∷ front) back (suc k) key none within is = none_asked front back k key none (omega arith) is
none_asked (Key byte ∷ front) back k key none within is = cc none
none_asked (Mark cells ∷ front) back (suc k) key none within is = none_asked front back k key none (omega arith) is
none_asked _ back zero key none within is = cc is

-- the symbols of a sector that stand before its sector ID
abbrev field_start : List Symbol
field_start = sync ++ (marks 0x4489 ++ Byte 0xFE ∷ [])

front_asks : asked_in (before_sectors ++ field_start) ≡ []
unfolding asked_in before_sectors
front_asks = refl

before_asks : asked_in before_sectors ≡ []
unfolding asked_in before_sectors
before_asks = refl

front_long : length (before_sectors ++ field_start) ≡ 162
unfolding before_sectors
front_long = refl

first_sector : (size gap3 fill : ℕ) (key : Chrn) (keys : List Chrn) → (back : List Symbol) × (sectors_symbols size gap3 fill (key ∷ keys) ≡ field_start ++ back)
unfolding sectors_symbols field_symbols
first_sector size gap3 fill key keys = (_, refl)

no_sector : (size gap3 fill : ℕ) → sectors_symbols size gap3 fill [] ≡ []
unfolding sectors_symbols
no_sector size gap3 fill = refl

-- after the last symbol there is none
none_behind : (symbols : List Symbol) (k key : ℕ) → length symbols ≤ k → next_symbol (drop k symbols) ≡ Key key → ⊥
none_behind symbols k key over is =
    let none : drop k symbols ≡ [] = drop_all k symbols over in
    let gap_is : next_symbol [] ≡ Key key = subst (λ left. next_symbol left ≡ Key key) none is in
    cc gap_is

pub first_key : (keys : List Chrn) (n gap3 fill k : ℕ) → AsksKey (drop k (track_symbols keys n gap3 fill)) → 162 ≤ k
first_key [] n gap3 fill k (key, is) =
    let alone : next_symbol (drop k (before_sectors ++ [])) ≡ Key key = subst (λ sectors. next_symbol (drop k (before_sectors ++ sectors)) ≡ Key key) (no_sector (content_size n) gap3 fill) is in
    let long : length (before_sectors ++ []) ≡ 146 = length-append before_sectors [] ∙ ap (λ m. m + 0) length-before in
    elim (cases_lt k 146) [
      | inl within ↦ absurd (none_asked before_sectors [] k key before_asks (subst (λ m. k < m) (sym length-before) within) alone)
      | inr over ↦ absurd (none_behind (before_sectors ++ []) k key (subst (λ m. m ≤ k) (sym long) over) alone)
    ]
first_key (first ∷ keys) n gap3 fill k (key, is) =
    let sector = first_sector (content_size n) gap3 fill first keys in
    let split : before_sectors ++ sectors_symbols (content_size n) gap3 fill (first ∷ keys) ≡ (before_sectors ++ field_start) ++ sector.0 = ap (λ xs. before_sectors ++ xs) sector.1 ∙ sym (append_assoc before_sectors field_start sector.0) in
    let ahead : next_symbol (drop k ((before_sectors ++ field_start) ++ sector.0)) ≡ Key key = subst (λ symbols. next_symbol (drop k symbols) ≡ Key key) split is in
    elim (cases_lt k 162) [
      | inl within ↦ absurd (none_asked (before_sectors ++ field_start) sector.0 k key front_asks (subst (λ m. k < m) (sym front_long) within) ahead)
      | inr over ↦ over
    ]

-- ---- the stages

pub fresh_leads : (numbers : Numbers) (stream : FormatStream) → ((keys : List Chrn) → length keys ≡ numbers.sectors → Gives stream false (symbols_of numbers keys)) → StreamLeads stream 162
fresh_leads numbers stream gives = record { numbers = numbers; words = []; handed = []; laid = fresh_laid numbers stream gives; most = omega arith }

pub none_before : (stream : FormatStream) (takes : Bool) (lead : ℕ) → takes ≡ true → StreamTakes stream takes → StreamLeads stream lead → lead ≡ 0
none_before stream takes lead is asks leads =
    let some = some_keys leads.numbers leads.handed leads.laid.few in
    let keys = keys_from leads.numbers.sectors leads.handed in
    let at = leads.laid.laid keys some.0 some.1 in
    let key : AsksKey at.1 = (asks at.0 at.1 at.2.gives).0 is in
    let past : 162 ≤ length leads.words = first_key keys leads.numbers.n leads.numbers.gap3 leads.numbers.fill (length leads.words) (subst AsksKey at.2.left_is key) in
    omega (arith, leads.most)

pub one_fewer : (old new : FormatStream) (byte word : ℕ) (takes : Bool) (lead : ℕ) → Goes old new byte word → StreamTakes old takes → StreamLeads old lead → StreamLeads new (lead - 1)
one_fewer old new byte word takes lead goes asks leads = record {
  numbers = leads.numbers;
  words = with_word leads.words word;
  handed = handed_with takes byte leads.handed;
  laid = next_laid leads.words leads.handed leads.numbers old new byte word takes goes asks leads.laid;
  most = omega (arith, leads.most, length-append leads.words (word ∷ []));
}
