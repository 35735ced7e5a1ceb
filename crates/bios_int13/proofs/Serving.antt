-- What a call of INT 13h runs: requests for records, one after the other, and requests that put memory back.
use Rattle.std.proofs.Common.{◌≡◌, ℕ, suc, ◌+◌, ◌-◌, ◌<◌, ◌≤◌, Bool, true, false, List, [], ◌∷◌, ◌++◌, length, take, drop, map, min, refl, sym, ap, ◌∙◌, subst, arith, inl, inr, Option, None, Result, Ok, Err, append_assoc, length-append, length-take, length-drop, drop-cons}
use Rattle.std.specs.Prelude.{◌||◌, MatchBool, MatchOption, slice_index, ◌⊎◌, not, IfErr, if◌then◌else◌}
use Rattle.bios_int13.proofs.Common.{range_with_len, take-append-drop, take-append-le, take_all, take_more, drop-drop, get_or-take, get_or-drop, same_number_lists, Files, bytes_from, SameOutside, Request, Taken, has_refusal, Kind, Read, Write, Verify, Work, MovesRecord, MovesIn, VerifiesRecords, DoesWork, AcksAlone, Transfers, look_at, ack_code, AreDone, MovesRecords, record_request, record_behind, place_of_record, put_request}
use Rattle.std.proofs.lemmas.Bool.{true≢false, le-leb}
use Rattle.std.proofs.lemmas.Slice.{drop-append-drop}
use Rattle.std.proofs.lemmas.List.FromFn.{map-range_with_len_more, take-map-range_with_len, get_or-map-range_with_len, length-map-range_with_len}
use Rattle.flop_base.specs.Numbers.{code_number}
use Rattle.flop_base.specs.declared.key.Chrn.{Chrn}
use Rattle.flop_base.specs.declared.answers.Code.{Code}
use Rattle.flop_base.specs.Lists.{with_items}
use Rattle.floppy_jobs.specs.declared.request.Request.TheVariants as request
use Rattle.sector_model.specs.declared.reply.Reply.{Reply}
use Rattle.sector_model.specs.declared.reply.Reply.TheVariants as reply
use Rattle.sector_model.specs.Stations.{StationState}
use Rattle.sector_model.specs.Orders.{is_acknowledged}
use Rattle.sector_model.specs.States.{State, IsSame}
use Rattle.sector_model.specs.Steps.{Step, Fills, IsRefused, unless_bad, read_reply, reply_of}
use Rattle.sector_model.specs.Texts.{is_refusal}
use Rattle.sector_model.proofs.Runs.{run_more, requests_more, refusal_more}
use Rattle.flop_base.specs.declared.answers.Code.TheVariants.{NotReady}
use Rattle.bios_int13.specs.declared.work.Work.TheVariants.{Changed, Move}
use Rattle.bios_int13.specs.Services.{record_requests, put_requests}

-- ---- Requests that are done one after the other.

pub done_none : (old : State) (told : Option Files) → AreDone [] old told [] old
done_none old told = record { run = (refl, refl); asked = refl; fine = refl }

or_no : (a b : Bool) → a ≡ false → b ≡ false → (a || b) ≡ false
or_no a b one two = subst (λ (x : Bool). (x || b) ≡ false) (sym one) two

pub done_more : (requests more : List Request) (next : Request) (answer : Reply) (old mid new : State) (told : Option Files) (course : List Taken) → more ≡ requests ++ next ∷ [] → AreDone requests old told course mid → is_refusal answer ≡ false → Step next mid told answer new told → AreDone more old told (course ++ (record { asked = next; answer = answer; after = new }) ∷ []) new
done_more requests more next answer old mid new told course is done fine step =
    let taken : Taken = record { asked = next; answer = answer; after = new } in
    record {
      run = run_more old mid told told told course taken done.run step;
      asked = requests_more course taken ∙ ap (λ (r : List Request). r ++ next ∷ []) done.asked ∙ sym is;
      fine = refusal_more course taken ∙ or_no (has_refusal course) (is_refusal answer) done.fine fine;
    }

-- ---- The requests of a transfer.

module _ (kind : Kind) (bay : ℕ) (first : Chrn) (address : ℕ) where
  pub no_records : record_requests kind bay first address 0 ≡ []
  unfolding record_requests
  no_records = refl

  pub records_more : (i : ℕ) → record_requests kind bay first address (i + 1) ≡ record_requests kind bay first address i ++ record_request kind bay (record_behind first i) (place_of_record kind address i) ∷ []
  unfolding record_requests
  records_more i = map-range_with_len_more (λ i. record_request kind bay (record_behind first i) (place_of_record kind address i)) 0 i i (omega arith)

  pub records_long : (count : ℕ) → length (record_requests kind bay first address count) ≡ count
  unfolding record_requests
  records_long count = length-map-range_with_len (λ i. record_request kind bay (record_behind first i) (place_of_record kind address i)) 0 count

  -- the requests for all records are those before one record, the one for it, and those after it
  pub records_parted : (i count : ℕ) → i < count → record_requests kind bay first address count ≡ record_requests kind bay first address i ++ record_request kind bay (record_behind first i) (place_of_record kind address i) ∷ drop (suc i) (record_requests kind bay first address count)
  unfolding record_requests
  records_parted i count within =
      let f : ℕ → Request = λ i. record_request kind bay (record_behind first i) (place_of_record kind address i) in
      let all : List Request = map f (range_with_len 0 count) in
      let inside : i < length all = omega (arith, length-map-range_with_len f 0 count) in
      sym (take-append-drop i all)
      ∙ ap (λ (r : List Request). r ++ drop i all) (take-map-range_with_len f 0 count i (omega arith))
      ∙ ap (λ (r : List Request). map f (range_with_len 0 i) ++ r) (drop-cons all i (f i) inside ∙ ap (λ (r : Request). r ∷ drop (suc i) all) (get_or-map-range_with_len f 0 count i i (f i) within (omega arith)))

-- ---- Memory that a verify reads to and then puts back.

module _ (memory : List ℕ) (a : ℕ) (bytes : List ℕ) (fits : a + length bytes ≤ length memory) where
  front : length (take a memory) ≡ a
  front = omega (arith, length-take a memory)

  -- one more byte is put, at the next address
  pub put_one : (byte : ℕ) → with_items (with_items memory a bytes) (a + length bytes) (byte ∷ []) ≡ with_items memory a (bytes ++ byte ∷ [])
  unfolding with_items
  put_one byte =
      let here : ℕ = a + length bytes in
      let rest : List ℕ = drop here memory in
      let head : List ℕ = take a memory ++ bytes in
      let long : length head ≡ here = omega (arith, front, length-append (take a memory) bytes) in
      let whole : take a memory ++ (bytes ++ rest) ≡ head ++ rest = sym (append_assoc (take a memory) bytes rest) in
      let low : take here (take a memory ++ (bytes ++ rest)) ≡ head =
      ap (take here) whole ∙ take-append-le here head rest (omega (arith, long)) ∙ take_all here head (omega (arith, long)) in
      let high : drop (here + 1) (take a memory ++ (bytes ++ rest)) ≡ drop (here + 1) memory =
      ap (drop (here + 1)) whole ∙ drop-append-drop here memory head (here + 1) (omega arith) long in
      let count : here + 1 ≡ a + length (bytes ++ byte ∷ []) = omega (arith, length-append bytes (byte ∷ [])) in
      ap (λ r. r ++ (byte ∷ drop (here + 1) (take a memory ++ (bytes ++ rest)))) low
      ∙ ap (λ r. head ++ (byte ∷ r)) high
      ∙ append_assoc (take a memory) bytes (byte ∷ drop (here + 1) memory)
      ∙ ap (λ r. take a memory ++ r) (sym (append_assoc bytes (byte ∷ []) (drop (here + 1) memory)))
      ∙ ap (λ n. take a memory ++ ((bytes ++ byte ∷ []) ++ drop n memory)) count

pub outside_after : (a b c : List ℕ) (address count : ℕ) → SameOutside address count a b → SameOutside address count b c → SameOutside address count a c
outside_after a b c address count one two = record {
  length = two.length ∙ one.length;
  others = λ k is. two.others k is ∙ one.others k is;
}

-- if the bytes that were there are put back, memory is as it was, whatever the range held in between
pub put_back_all : (old mid : List ℕ) (address count : ℕ) → address + count ≤ length old → SameOutside address count old mid → with_items mid address (bytes_from old address count) ≡ old
unfolding with_items
put_back_all old mid address count room same =
    let bytes : List ℕ = take count (drop address old) in
    let long : length bytes ≡ count = omega (arith, room, length-take count (drop address old), length-drop address old) in
    let end : ℕ = address + length bytes in
    let front : take address mid ≡ take address old =
    same_number_lists (take address mid) (take address old)
    (length-take address mid ∙ ap (λ n. min address n) same.length ∙ sym (length-take address old))
    (λ k within.
    let low : k < address = omega (arith, length-take address mid) in
    get_or-take address mid k 0 low ∙ same.others k (inl low) ∙ sym (get_or-take address old k 0 low)) in
    let back : drop end mid ≡ drop end old =
    same_number_lists (drop end mid) (drop end old)
    (length-drop end mid ∙ ap (λ n. n - end) same.length ∙ sym (length-drop end old))
    (λ k within.
    let high : address + count ≤ end + k = omega (arith, long) in
    get_or-drop end mid k 0 ∙ same.others (end + k) (inr high) ∙ sym (get_or-drop end old k 0)) in
    let rest : drop end old ≡ drop count (drop address old) = ap (λ n. drop (address + n) old) long ∙ sym (drop-drop count address old) in
    ap (λ row. row ++ (bytes ++ drop end mid)) front
    ∙ ap (λ row. take address old ++ (bytes ++ row)) (back ∙ rest)
    ∙ ap (λ row. take address old ++ row) (take-append-drop count (drop address old))
    ∙ take-append-drop address old

-- ---- A record, and the records of a transfer.

-- a read that isn't refused moved a record
pub read_done : (bay : ℕ) (key : Chrn) (address : ℕ) (old new : State) (told : Option Files) (deleted : Bool) → Step (request.Read bay key address) old told (read_reply (Ok deleted)) new told → (answer : Reply) × (is_refusal answer ≡ false) × Step (request.Read bay key address) old told answer new told
read_done bay key address old new told true step = (reply.DoneDeleted, refl, step)
read_done bay key address old new told false step = (reply.Done, refl, step)

-- a write moves a record, or is refused
pub write_moves : (bay : ℕ) (key : Chrn) (address : ℕ) (old new : State) (told : Option Files) (answer : Result (Unit {0}) Code) → Step (request.Write bay key address) old told (reply_of answer) new told → MovesRecord (request.Write bay key address) old told answer new
write_moves bay key address old new told (Ok u) step = (reply.Done, refl, step)
write_moves bay key address old new told (Err code) step = step

-- the request for a record, by the kind of the call
pub as_read : (kind : Kind) (bay : ℕ) (key : Chrn) (address : ℕ) (old new : State) (told : Option Files) (answer : Result (Unit {0}) Code) → ((kind ≡ Read) ⊎ (kind ≡ Verify)) → MovesRecord (request.Read bay key address) old told answer new → MovesRecord (record_request kind bay key address) old told answer new
as_read kind bay key address old new told answer is moves =
    let same : record_request kind bay key address ≡ request.Read bay key address = elim is [
      | inl read ↦ ap (λ (k : Kind). record_request k bay key address) read
      | inr verify ↦ ap (λ (k : Kind). record_request k bay key address) verify
    ] in
    subst (λ (r : Request). MovesRecord r old told answer new) (sym same) moves

pub as_write : (kind : Kind) (bay : ℕ) (key : Chrn) (address : ℕ) (old new : State) (told : Option Files) (answer : Result (Unit {0}) Code) → kind ≡ Write → MovesRecord (request.Write bay key address) old told answer new → MovesRecord (record_request kind bay key address) old told answer new
as_write kind bay key address old new told answer is moves = subst (λ (k : Kind). MovesRecord (record_request k bay key address) old told answer new) (sym is) moves

-- an acknowledgement for a call that moves no record
pub acks_done : (bay : ℕ) (old new : State) (told : Option Files) (answer : Result (Unit {0}) Code) (code : ℕ) → Step (request.Ack bay) old told (reply_of answer) new told → IfErr answer (λ c. c ≡ NotReady) → code ≡ ack_code answer → (course : List Taken) × AcksAlone bay old told course code 0 new
acks_done bay old new told answer code step only is = (
  record { asked = request.Ack bay; answer = reply_of answer; after = new } ∷ [],
  record { answer = answer; step = step; course_is = refl; code_is = is; codes = codes answer only is; none = refl },
)
  where
    codes : (answer : Result (Unit {0}) Code) → IfErr answer (λ c. c ≡ NotReady) → code ≡ ack_code answer → (code ≡ 0x06) ⊎ (code ≡ 0x80)
    codes (Ok u) only is = inl is
    codes (Err c) only is = inr (is ∙ ap code_number only)

-- a transfer in a bay that isn't acknowledged
pub transfers_ack : (kind : Kind) (bay : ℕ) (first : Chrn) (count address : ℕ) (old looked new : State) (told : Option Files) (code moved : ℕ) → true ≡ not (is_acknowledged old.station bay) → IsSame 2 old looked → ((course : List Taken) × AcksAlone bay looked told course code moved new) → (course : List Taken) × Transfers kind bay first count address old told course code moved new
transfers_ack kind bay first count address old looked new told code moved changed same acks = (
  look_at looked ∷ acks.0,
  record {
    looked = looked;
    same = same;
    later = acks.0;
    course_is = refl;
    goes = by_test (is_acknowledged old.station bay) changed;
  },
)
  where
    by_test : (b : Bool) → true ≡ not b → MatchBool b (MovesIn kind address (record_requests kind bay first address count) looked told acks.0 code moved new) (AcksAlone bay looked told acks.0 code moved new)
    by_test true is = absurd (true≢false is)
    by_test false is = acks.1

-- a transfer in an acknowledged bay
pub transfers_moves : (kind : Kind) (bay : ℕ) (first : Chrn) (count address : ℕ) (old looked new : State) (told : Option Files) (code moved : ℕ) → false ≡ not (is_acknowledged old.station bay) → IsSame 2 old looked → ((course : List Taken) × MovesIn kind address (record_requests kind bay first address count) looked told course code moved new) → (course : List Taken) × Transfers kind bay first count address old told course code moved new
transfers_moves kind bay first count address old looked new told code moved changed same moves = (
  look_at looked ∷ moves.0,
  record {
    looked = looked;
    same = same;
    later = moves.0;
    course_is = refl;
    goes = by_test (is_acknowledged old.station bay) changed;
  },
)
  where
    by_test : (b : Bool) → false ≡ not b → MatchBool b (MovesIn kind address (record_requests kind bay first address count) looked told moves.0 code moved new) (AcksAlone bay looked told moves.0 code moved new)
    by_test true is = moves.1
    by_test false is = absurd (true≢false (sym is))

-- the records of a read or a write
pub moves_in : (kind : Kind) (address : ℕ) (requests : List Request) (old new : State) (told : Option Files) (code moved : ℕ) → ((kind ≡ Read) ⊎ (kind ≡ Write)) → ((course : List Taken) × MovesRecords requests old told course code moved new) → (course : List Taken) × MovesIn kind address requests old told course code moved new
moves_in Read address requests old new told code moved is moves = moves
moves_in Write address requests old new told code moved is moves = moves
moves_in Verify address requests old new told code moved is moves = elim is [
  | inl read ↦ absurd (cc read)
  | inr write ↦ absurd (cc write)
]

-- ---- Bytes that are put back.

-- a byte was put to memory
pub put_step : (old new : State) (told : Option Files) (address byte : ℕ) (answer : Reply) → address + 1 ≤ 983040 → Step (request.Fill address 1 byte) old told answer new told → (answer ≡ reply.Done) × (told ≡ told) × Fills address 1 byte old new
put_step old new told address byte answer within step =
    subst (λ (b : Bool). MatchOption (unless_bad b None) ((answer ≡ reply.Done) × (told ≡ told) × Fills address 1 byte old new) (λ cause. IsRefused cause old told answer new told)) (le-leb (address + 1) 983040 within) step

-- one more byte was put
pub puts_more : (address : ℕ) (bytes : List ℕ) (i : ℕ) (old mid new : State) (told : Option Files) (course : List Taken) (answer : Reply) → address + i + 1 ≤ 983040 → AreDone (map (put_request address bytes) (range_with_len 0 i)) old told course mid → Step (request.Fill (address + i) 1 (slice_index bytes i)) mid told answer new told → AreDone (map (put_request address bytes) (range_with_len 0 (i + 1))) old told (course ++ (record { asked = put_request address bytes i; answer = answer; after = new }) ∷ []) new
puts_more address bytes i old mid new told course answer within done step =
    let put = put_step mid new told (address + i) (slice_index bytes i) answer within step in
    done_more _ _ (put_request address bytes i) answer old mid new told course (map-range_with_len_more (put_request address bytes) 0 i i (omega arith)) done (ap is_refusal put.0) step

pub put_memory : (memory : List ℕ) (address : ℕ) (bytes : List ℕ) (i : ℕ) (mid new : State) (told : Option Files) (answer : Reply) → address + i + 1 ≤ 983040 → i < length bytes → address + length bytes ≤ length memory → mid.station.memory ≡ with_items memory address (take i bytes) → Step (request.Fill (address + i) 1 (slice_index bytes i)) mid told answer new told → new.station.memory ≡ with_items memory address (take (i + 1) bytes)
put_memory memory address bytes i mid new told answer within inside room so_far step =
    let put = put_step mid new told (address + i) (slice_index bytes i) answer within step in
    let long : length (take i bytes) ≡ i = omega (arith, length-take i bytes, inside) in
    let fills = put.2 in
    ap (λ (s : StationState). s.memory) fills.becomes
    ∙ ap (λ (m : List ℕ). with_items m (address + i) (slice_index bytes i ∷ [])) so_far
    ∙ ap (λ (n : ℕ). with_items (with_items memory address (take i bytes)) (address + n) (slice_index bytes i ∷ [])) (sym long)
    ∙ put_one memory address (take i bytes) (omega (arith, long, inside, room)) (slice_index bytes i)
    ∙ ap (with_items memory address) (sym (take_more bytes i 0 inside))

pub puts_are : (address : ℕ) (bytes : List ℕ) (count : ℕ) → count ≡ length bytes → map (put_request address bytes) (range_with_len 0 count) ≡ put_requests address bytes
unfolding put_requests
puts_are address bytes count is = ap (λ (n : ℕ). map (put_request address bytes) (range_with_len 0 n)) is

-- the records of a verify
pub verifies_in : (kind : Kind) (bay : ℕ) (first : Chrn) (count address : ℕ) (old new : State) (told : Option Files) (code moved : ℕ) → kind ≡ Verify → ((course : List Taken) × VerifiesRecords address (record_requests Verify bay first address count) old told course code moved new) → (course : List Taken) × MovesIn kind address (record_requests kind bay first address count) old told course code moved new
verifies_in kind bay first count address old new told code moved is verifies =
    subst (λ (k : Kind). (course : List Taken) × MovesIn k address (record_requests k bay first address count) old told course code moved new) (sym is) verifies

-- ---- The work of a call.

pub work_changed : (work : Work) (bay : ℕ) (old new : State) (told : Option Files) (code : ℕ) → work ≡ Changed bay → code ≡ (if is_acknowledged old.station bay then 0x00 else 0x06) → IsSame 2 old new → (course : List Taken) × DoesWork work old told course code 0 new
work_changed work bay old new told code is code_is same = (
  look_at new ∷ [],
  subst (λ (w : Work). DoesWork w old told (look_at new ∷ []) code 0 new) (sym is) (record { course_is = refl; same = same; code_is = code_is; none = refl }),
)

pub work_moves : (work : Work) (kind : Kind) (bay c h r count address : ℕ) (old new : State) (told : Option Files) (code moved : ℕ) → work ≡ Move kind bay c h r count address → ((course : List Taken) × Transfers kind bay (record { c = c; h = h; r = r; n = 2 }) count address old told course code moved new) → (course : List Taken) × DoesWork work old told course code moved new
work_moves work kind bay c h r count address old new told code moved is transfers = (transfers.0, subst (λ (w : Work). DoesWork w old told transfers.0 code moved new) (sym is) transfers.1)
