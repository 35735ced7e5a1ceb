-- What the ending of a reading says of the words heard.
use Rattle.std.proofs.Common.{◌≡◌, ℕ, Bool, true, false, Option, None, List, [], ◌++◌, length, refl, sym, subst, ◌∙◌, inl, inr}
use Rattle.fdc_stages.proofs.Common.{append-nil, Chrn, IsSizeCode, content_size, Separator, whole_part, field_stays, address_stays, no_data_stays, Ending, Done, NoMark, NoSector, BadCheck, Past, IsTurn, IsTurnIn, IsAmong, IsMet, IsBetween, IsMissed, IsStart, HasNoField, IsFieldOver, HasRead}
use Rattle.fdc_stages.specs.Findings.{FindsSector, HasAddress, HasIdentified, FindsBadCheck, FindsNoField, FindsNoMark, FindsNoSector}
use Rattle.fdc_stages.proofs.Lawful.{start_full, over_full}

-- the bytes given to memory are the first of the bytes reported
start_rest : (counted : Bool) (given told : List ℕ) → IsStart counted given told → (rest : List ℕ) × (told ≡ given ++ rest)
start_rest false given told is = ([], sym is ∙ sym (append-nil given))
start_rest true given told (rest, is) = (rest, is)

-- a reading that is done has found the sector
pub found_of : (past : Past) (key : Chrn) (told given : List ℕ) (deleted : Bool) → IsSizeCode key.n → HasRead past key told (Done deleted) → IsStart past.counted given told → FindsSector past key given deleted
found_of past key told given deleted coded read start =
    let turn = read.cause.1.0 in
    let p = read.cause.1.2.0 in
    let q = read.cause.1.2.1 in
    let over : IsFieldOver turn key told deleted true p q = read.cause.1.2.2 in
    let long : length told ≡ content_size key.n = over_full past key told deleted true read.cause.1 in (
      read.cause.0,
      (
        turn,
        p,
        q,
        record {
          among = read.cause.1.1;
          address = over.address;
          finds = field_stays turn turn (whole_part turn) p q key.n (content_size key.n) deleted true coded refl over.ended over.tells;
          begins = let (rest, is) = start_rest past.counted given told start in (rest, sym over.bytes ∙ is);
          content = λ full. start_full past.counted given told start (full ∙ sym long) ∙ over.bytes;
        },
      ),
    )

-- the ending BadCheck: the CRC of a data field is wrong
pub bad_check_of : (past : Past) (key : Chrn) (told : List ℕ) → IsSizeCode key.n → HasRead past key told BadCheck → FindsBadCheck past key
bad_check_of past key told coded read =
    let deleted = read.cause.0 in
    let turn = read.cause.1.0 in
    let p = read.cause.1.2.0 in
    let q = read.cause.1.2.1 in
    let over : IsFieldOver turn key told deleted false p q = read.cause.1.2.2 in
    (turn, p, record { among = read.cause.1.1; address = over.address }, field_stays turn turn (whole_part turn) p q key.n (content_size key.n) deleted false coded refl over.ended over.tells)

-- the ending NoField: an address field has no data field
pub no_field_of : (past : Past) (key : Chrn) → HasNoField past key → FindsNoField past key
no_field_of past key (inl (turn, p, cut)) = inl (turn, p, cut.over, cut.address, cut.none)
no_field_of past key (inr (p, bare)) = inr (p, λ whole part. (address_stays past.seen whole part p key bare.address, no_data_stays past.seen whole part p key.n bare.none))

-- the revolution between the two index pulses is one of those that were heard
between_heard : (past : Past) (between : List ℕ) → IsBetween past between → IsTurn past between
between_heard past between is = subst (λ turns. IsTurnIn turns past.seen between) (sym is.turns) (inr (inl refl))

pub no_mark_of : (past : Past) (wanted : Option Chrn) → IsMissed past wanted NoMark → FindsNoMark past
no_mark_of past wanted (missed, none) = (missed.between, missed.is, λ mark. none (missed.between, between_heard past missed.between missed.is, mark))

pub no_sector_of : (past : Past) (wanted : Option Chrn) → IsMissed past wanted NoSector → FindsNoSector past wanted
no_sector_of past wanted (missed, marked) = (marked, (missed.between, missed.is, missed.none missed.between (between_heard past missed.between missed.is)))

-- if a search for any address field misses, its ending is that of the READ ID
pub identified_of : (past : Past) (key : Chrn) (ending : Ending) → IsMissed past None ending → HasIdentified past key ending
identified_of past key NoMark missed = missed
identified_of past key NoSector missed = missed
identified_of past key _ missed = absurd missed

-- an address field that was met stands in the words heard
pub met_heard : (index : Bool) (past : Past) (key : Chrn) (separator : Separator) → IsMet index past key separator → HasAddress past key
met_heard false past key separator (p, met) = (past.seen, p, record { among = inl refl; address = met.address })
met_heard true past key separator (turn, p, met) = (turn, p, record { among = inr (subst (λ turns. IsAmong turns turn) (sym met.over.last) (inl refl)); address = met.address })
