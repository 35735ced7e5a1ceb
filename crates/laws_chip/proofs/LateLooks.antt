-- What was given, and what wasn't found, after words 0000.
use Rattle.std.proofs.Common.{◌≡◌, inl, inr, ℕ, ◌+◌, ◌-◌, ◌*◌, ◌<◌, ◌≤◌, Bool, List, [], ◌∷◌, ◌++◌, length, get_or, replicate, slice_index, refl, sym, ◌∙◌, ap, subst, arith}
use Rattle.laws_chip.proofs.Common.{get_or-append, cases_lt, get_or-append_right, get_or-replicate, length-replicate, Chrn, BadCrc, NoData, IsAddressAt, HasDataField, IsFirstDataMark, IsIntact, LookAt, IsPart, FindsBadCheck, FindsNoField, IsWithoutData, Past, IsToldFrom, IsToldOf, IsBetween, AreOfField, IsHeardWhole, led, turn_led, turns_led, data_field_on, data_mark_back, data_mark_on, intact_on, whole_back, few_led, length_front, turn_of_led, address_in, shifted_bytes_at, FindsField}
use Rattle.track_model.specs.Bytes.{bytes_at}

-- ---- ---- words after words 0000

in_front : (lead : ℕ) (words : List ℕ) (k : ℕ) → k < lead → slice_index (replicate lead 0 ++ words) k ≡ 0
in_front lead words k low =
    let front : length {A = ℕ} (replicate lead 0) ≡ lead = length-replicate lead 0 in
    get_or-append (replicate lead 0) words 0 k (omega arith) ∙ get_or-replicate lead k 0 0 low

behind_front : (lead : ℕ) (words : List ℕ) (k : ℕ) → lead ≤ k → slice_index (replicate lead 0 ++ words) k ≡ slice_index words (k - lead)
behind_front lead words k high = get_or-append_right (replicate lead 0) words lead k 0 (length-replicate lead 0) high

module _ (lead : ℕ) (words : List ℕ) where
  abbrev front : List ℕ
  front = replicate lead 0 ++ words

  whole : IsHeardWhole front lead words
  whole = record { each = λ i below. let back : lead + i - lead ≡ i = omega arith in sym (behind_front lead words (lead + i) (omega arith) ∙ ap (slice_index words) back) }

  room : lead + length words ≤ length front
  room = let long = length_front lead words in omega arith

  -- an address field begins after the words 0000
  address_behind : (p : ℕ) (key : Chrn) → IsAddressAt front p key → (p ≡ p - 16 * lead + 16 * lead) × IsAddressAt words (p - 16 * lead) key
  address_behind p key address =
      let is = address_in lead [] words p key address in
      let long : length front ≡ lead + length words = length_front lead words in
      let longer : length front ≡ is.ahead + length words = is.longer in
      let p_is = is.p_is in
      let same : is.place ≡ p - 16 * lead = omega arith in
      (omega arith, subst (λ k. IsAddressAt words k key) same is.address)

  first_behind : (a b : ℕ) (deleted : Bool) → b + 64 ≤ 16 * length words → IsFirstDataMark front (a + 16 * lead) (b + 16 * lead) deleted → IsFirstDataMark words a b deleted
  first_behind a b deleted inside first = record {
    mark = data_mark_back front lead words whole room a (b + 16 * lead) b deleted refl inside first.mark;
    none_before = λ k other before mark. first.none_before (k + 16 * lead) other (omega arith) (data_mark_on front lead words whole room a k other mark);
  }

  bytes_behind : (b count : ℕ) → b + 64 + 16 * count ≤ 16 * length words → bytes_at front (b + 16 * lead + 64) count ≡ bytes_at words (b + 64) count
  bytes_behind b count inside =
      shifted_bytes_at front words (b + 16 * lead) b (64 + 16 * count) (whole_back front lead words b (64 + 16 * count) whole room (omega arith)) (b + 16 * lead + 64) (b + 64) count
      (omega arith) (omega arith) (omega arith)

  -- the data field of that address field begins after them too
  data_field_behind : (p q n : ℕ) (deleted : Bool) → p ≡ p - 16 * lead + 16 * lead → HasDataField front p n q deleted
      → (q ≡ q - 16 * lead + 16 * lead) × HasDataField words (p - 16 * lead) n (q - 16 * lead) deleted
  data_field_behind p q n deleted p_is field =
      let long : length front ≡ lead + length words = length_front lead words in
      let after = field.first.mark.after in
      let cells = field.inside in
      let a = p - 16 * lead in
      let b = q - 16 * lead in
      let q_is : q ≡ b + 16 * lead = omega arith in
      let moved : HasDataField front (a + 16 * lead) n (b + 16 * lead) deleted =
      subst (λ k. HasDataField front k n (b + 16 * lead) deleted) p_is (subst (λ k. HasDataField front p n k deleted) q_is field) in
      (q_is, record { coded = field.coded; first = first_behind a b deleted (omega arith) moved.first; inside = omega arith })

  -- an address field without a data field has none either if the words 0000 are left out
  none_behind : (p : ℕ) (key : Chrn) → IsAddressAt front p key → LookAt front p key.n NoData → IsAddressAt words (p - 16 * lead) key × LookAt words (p - 16 * lead) key.n NoData
  none_behind p key address look =
      let (p_is, here) = address_behind p key address in (
        here,
        λ q deleted field. look (q + 16 * lead) deleted (subst (λ k. HasDataField front k key.n (q + 16 * lead) deleted) (sym p_is)
            (data_field_on front lead words whole room (p - 16 * lead) key.n q deleted field)),
      )

-- ---- what was given

told_front : (lead : ℕ) (earlier : List (List ℕ)) (turn : List ℕ) (key : Chrn) (told : List ℕ) (p q count : ℕ) (deleted : Bool)
    → IsToldFrom (turn_led lead earlier turn) key told p q count deleted → (a : ℕ) × (b : ℕ) × (n : ℕ) × (d : Bool) × IsToldFrom turn key told a b n d
told_front lead (last ∷ earlier) turn key told p q count deleted of = (p, q, count, deleted, of)
told_front lead [] turn key told p q count deleted of =
    let words = replicate lead 0 ++ turn in
    let (p_is, here) = address_behind lead turn p key of.address in
    let long : length words ≡ lead + length turn = length_front lead turn in
    let after = of.mark.mark.after in
    let cells = of.inside in
    let a = p - 16 * lead in
    let b = q - 16 * lead in
    let q_is : q ≡ b + 16 * lead = omega arith in
    let mark : IsFirstDataMark words (a + 16 * lead) (b + 16 * lead) deleted =
    subst (λ k. IsFirstDataMark words k (b + 16 * lead) deleted) p_is (subst (λ k. IsFirstDataMark words p k deleted) q_is of.mark) in (
      a,
      b,
      count,
      deleted,
      record {
        address = here;
        mark = first_behind lead turn a b deleted (omega arith) mark;
        most = of.most;
        inside = omega arith;
        bytes = of.bytes ∙ (ap (λ k. bytes_at words (k + 64) count) q_is ∙ bytes_behind lead turn b count (omega arith));
      },
    )

told_late : (lead : ℕ) (late : Past) (key : Chrn) (told : List ℕ) → IsToldOf (led lead late) key told → IsToldOf late key told
told_late lead late key told (inl none) = inl none
told_late lead late key told (inr (words, among, (p, q, count, deleted, of))) =
    let is = turn_of_led lead late words among in
    inr (is.turn, is.among, told_front lead is.earlier is.turn key told p q count deleted (subst (λ w. IsToldFrom w key told p q count deleted) is.words_are of))

pub of_field_late : (lead : ℕ) (late : Past) (key : Chrn) (bytes : List ℕ) → AreOfField (led lead late) key bytes → AreOfField late key bytes
of_field_late lead late key bytes (told, of, rest) = (told, told_late lead late key told of, rest)

-- ---- two indexes

between_in : (lead : ℕ) (turns : List (List ℕ)) (seen between first : List ℕ) → turns_led lead turns ≡ between ∷ first ∷ [] → turn_led lead turns seen ≡ []
    → (before : List ℕ) × (turns ≡ between ∷ before ∷ []) × (seen ≡ [])
between_in lead [] seen between first is none = let none_led = ap length is in absurd (omega arith)
between_in lead (turn ∷ []) seen between first is none = let one_led = ap length is in absurd (omega arith)
between_in lead (turn ∷ before ∷ []) seen between first is none =
    let same : turn ≡ between = ap (λ (turns : List (List ℕ)). get_or turns 0 []) is in
    (before, ap (λ words. words ∷ before ∷ []) same, none)
between_in lead (turn ∷ before ∷ other ∷ turns) seen between first is none =
    let two = ap length is in
    let same = few_led lead (turn ∷ before ∷ other ∷ turns) in
    absurd (omega arith)

-- the words between the two indexes are the same without the words 0000
pub between_late : (lead : ℕ) (late : Past) (between : List ℕ) → IsBetween (led lead late) between → IsBetween late between
between_late lead late between is =
    let (before, turns, none) = between_in lead late.turns late.seen between is.first is.turns is.nothing in
    record { first = before; turns = turns; nothing = none }

-- ---- an address field without its data field

none_front : (lead : ℕ) (earlier : List (List ℕ)) (turn : List ℕ) (p : ℕ) (key : Chrn) → IsAddressAt (turn_led lead earlier turn) p key → LookAt (turn_led lead earlier turn) p key.n NoData
    → (a : ℕ) × IsAddressAt turn a key × LookAt turn a key.n NoData
none_front lead (last ∷ earlier) turn p key address look = (p, address, look)
none_front lead [] turn p key address look = let (here, none) = none_behind lead turn p key address look in (p - 16 * lead, here, none)

-- a revolution that an index ended, with nothing heard since
record IsOverLed (lead : ℕ) (turns : List (List ℕ)) (seen words : List ℕ) : Type 0 where
  earlier : List (List ℕ)
  turn : List ℕ
  turns_are : turns ≡ turn ∷ earlier
  nothing : seen ≡ []
  words_are : words ≡ turn_led lead earlier turn

over_led : (lead : ℕ) (turns : List (List ℕ)) (seen words : List ℕ) (before : List (List ℕ)) → turns_led lead turns ≡ words ∷ before → turn_led lead turns seen ≡ [] → IsOverLed lead turns seen words
over_led lead [] seen words before is none = let none_led = ap length is in absurd (omega arith)
over_led lead (turn ∷ earlier) seen words before is none =
    record { earlier = earlier; turn = turn; turns_are = refl; nothing = none; words_are = sym (ap (λ (turns : List (List ℕ)). get_or turns 0 []) is) }

-- a revolution that goes on
part_front : (lead : ℕ) (seen whole : List ℕ) → IsPart seen whole → IsPart (replicate lead 0 ++ seen) (replicate lead 0 ++ whole)
part_front lead seen whole part =
    let short = length_front lead seen in
    let long = length_front lead whole in
    let more = part.longer in
    record {
      longer = omega arith;
      same = λ k below. elim (cases_lt k lead) [
        | inl low ↦ in_front lead whole k low ∙ sym (in_front lead seen k low)
        | inr high ↦ behind_front lead whole k high ∙ (part.same (k - lead) (omega arith) ∙ sym (behind_front lead seen k high))
      ];
    }

without_front : (lead : ℕ) (turns : List (List ℕ)) (seen : List ℕ) (key : Chrn) (p : ℕ) → IsWithoutData (turn_led lead turns seen) key p → (a : ℕ) × IsWithoutData seen key a
without_front lead (last ∷ turns) seen key p without = (p, without)
without_front lead [] seen key p without = (
  p - 16 * lead,
  λ whole part. let (address, look) = without (replicate lead 0 ++ whole) (part_front lead seen whole part) in none_behind lead whole p key address look,
)

pub no_field_late : (lead : ℕ) (late : Past) (key : Chrn) → FindsNoField (led lead late) key → FindsNoField late key
no_field_late lead late key (inl (words, p, over, address, look)) =
    let is = over_led lead late.turns late.seen words over.earlier over.last over.nothing in
    let (a, here, none) = none_front lead is.earlier is.turn p key (subst (λ w. IsAddressAt w p key) is.words_are address) (subst (λ w. LookAt w p key.n NoData) is.words_are look) in
    inl (is.turn, a, record { earlier = is.earlier; last = is.turns_are; nothing = is.nothing }, here, none)
no_field_late lead late key (inr (p, without)) = inr (without_front lead late.turns late.seen key p without)

-- ---- a data field that isn't whole

bad_front : (lead : ℕ) (earlier : List (List ℕ)) (turn : List ℕ) (p : ℕ) (key : Chrn) → IsAddressAt (turn_led lead earlier turn) p key → LookAt (turn_led lead earlier turn) p key.n BadCrc
    → (a : ℕ) × IsAddressAt turn a key × LookAt turn a key.n BadCrc
bad_front lead (last ∷ earlier) turn p key address look = (p, address, look)
bad_front lead [] turn p key address (q, (deleted, field), broken) =
    let words = replicate lead 0 ++ turn in
    let (p_is, here) = address_behind lead turn p key address in
    let (q_is, moved) = data_field_behind lead turn p q key.n deleted p_is field in
    let b = q - 16 * lead in
    let bad : LookAt turn (p - 16 * lead) key.n BadCrc = (
      b,
      (deleted, moved),
      λ intact. broken (subst (λ k. IsIntact words k key.n) (sym q_is) (intact_on words lead turn (whole lead turn) (room lead turn) b key.n intact)),
    ) in
    (p - 16 * lead, here, bad)

pub bad_check_late : (lead : ℕ) (late : Past) (key : Chrn) → FindsBadCheck (led lead late) key → FindsBadCheck late key
bad_check_late lead late key (words, p, has, look) =
    let is = turn_of_led lead late words has.among in
    let (a, here, bad) = bad_front lead is.earlier is.turn p key (subst (λ w. IsAddressAt w p key) is.words_are has.address) (subst (λ w. LookAt w p key.n BadCrc) is.words_are look) in
    (is.turn, a, record { among = is.among; address = here }, bad)

-- ---- a data field, whole or not

field_front : (lead : ℕ) (earlier : List (List ℕ)) (turn : List ℕ) (p q : ℕ) (key : Chrn) (marked : Bool) → IsAddressAt (turn_led lead earlier turn) p key
    → HasDataField (turn_led lead earlier turn) p key.n q marked → (a : ℕ) × (b : ℕ) × IsAddressAt turn a key × HasDataField turn a key.n b marked
field_front lead (last ∷ earlier) turn p q key marked address field = (p, q, address, field)
field_front lead [] turn p q key marked address field =
    let (p_is, here) = address_behind lead turn p key address in
    let (q_is, moved) = data_field_behind lead turn p q key.n marked p_is field in
    (p - 16 * lead, q - 16 * lead, here, moved)

pub field_late : (lead : ℕ) (late : Past) (key : Chrn) (marked : Bool) → FindsField (led lead late) key marked → FindsField late key marked
field_late lead late key marked (words, p, q, has) =
    let is = turn_of_led lead late words has.among in
    let (a, b, here, moved) =
    field_front lead is.earlier is.turn p q key marked (subst (λ w. IsAddressAt w p key) is.words_are has.address) (subst (λ w. HasDataField w p key.n q marked) is.words_are has.field) in
    (is.turn, a, b, record { among = is.among; address = here; field = moved })
