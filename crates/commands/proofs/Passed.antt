-- Parts of a script that were gone through, and what is known of each.
use Rattle.std.proofs.Math.Path.{fun_ext}
use Rattle.std.proofs.Common.{◌+◌, zero, suc, ◌≡◌, ◌∙◌, ℕ, false, Bool, true, List, [], ◌∷◌, ◌++◌, map, inl, inr, refl, sym, ap, subst, append-nil, append_assoc, Option, Some}
use Rattle.std.specs.Prelude.{◌||◌}
use Rattle.commands.proofs.Common.{flat_map, range_with_len, map-append, Files, grown, Status, Request, Reply, bay_of, State, Step, is_refusal, Taken, Run, requests_of, has_refusal, World, Prints, Shape, shape_in, Script, Ends, RunsScript, StoresLast, Part, asks, needs, shape_at, rate_requests}
use Rattle.flop_base.specs.declared.answers.Rate.{Rate}
use Rattle.flop_base.specs.declared.answers.Rate.TheVariants.{R500, R250}
use Rattle.flop_base.specs.declared.answers.Status.TheVariants as status
use Rattle.floppy_jobs.specs.declared.request.Request.TheVariants as request
use Rattle.commands.specs.Parts.{carries, says, opens, sets_rate, acknowledges, through, each}
use Rattle.commands.proofs.Opened.{shape_put}
use Rattle.commands.proofs.Reading.{IsAnswered, IsRefused, IsWhole, ok_is_whole, need_run, need_taken, refused_is_not_ok, last_run}

-- what is known of a part that was gone through, by four things: the world before it, its course, what it found, and
-- the world after it
abbrev pub Known : Type 0 → Type 1
Known Found = World → List Taken → Found → World → Type 0

-- a part was gone through by the first part of a course, and what follows was run
pub record Passed {Found : Type 0} (Knows : Known Found) (rest : Found → Script) (old : World) (course : List Taken) (new : World)
    (ended : Status) : Type 0 where
  pub one : List Taken
  pub two : List Taken
  pub found : Found
  pub mid : World
  pub course_is : course ≡ one ++ two
  pub knows : Knows old one found mid
  pub left : RunsScript (rest found) mid two new ended

-- each run with this status went through the part, whatever follows it
abbrev pub Passes : {Found : Type 0} → Status → Part Found → Known Found → Type 0
Passes {Found = Found} ended part Knows =
    (rest : Found → Script) (old : World) (course : List Taken) (new : World)
    → RunsScript (part rest) old course new ended → Passed Knows rest old course new ended

-- two parts that were gone through, one after the other, are one part
abbrev pub joined : {First Found : Type 0} {Before : Known First} {Behind Knows : Known Found} {next : First → Script} {rest : Found → Script}
    {old : World} {course : List Taken} {new : World} {ended : Status}
    → (a : Passed Before next old course new ended) (b : Passed Behind rest a.mid a.two new ended) → Knows old
    (a.one ++ b.one) b.found b.mid → Passed Knows rest old course new ended
joined a b knows = record {
  one = a.one ++ b.one;
  two = b.two;
  found = b.found;
  mid = b.mid;
  course_is = a.course_is ∙ ap (λ (l : List Taken). a.one ++ l) b.course_is ∙ sym (append_assoc a.one b.one b.two);
  knows = knows;
  left = b.left;
}

-- a part that does nothing was gone through at once
pub at_once : {Found : Type 0} {Knows : Known Found} {rest : Found → Script} {old : World} {course : List Taken} {new : World} {ended : Status} (found : Found)
    → RunsScript (rest found) old course new ended → Knows old [] found old → Passed Knows rest old course new ended
at_once {old = old} {course = course} found runs knows =
    record { one = []; two = course; found = found; mid = old; course_is = refl; knows = knows; left = runs }

-- a part that was gone through, where more is known of it than is wanted
passed_known : {Found : Type 0} (Knows Wanted : Known Found)
    → ((old : World) (course : List Taken) (found : Found) (mid : World) → Knows old course found mid → Wanted old course found mid)
    → (rest : Found → Script) (old : World) (course : List Taken) (new : World) (ended : Status)
    → Passed Knows rest old course new ended → Passed Wanted rest old course new ended
passed_known Knows Wanted more rest old course new ended p = record {
  one = p.one;
  two = p.two;
  found = p.found;
  mid = p.mid;
  course_is = p.course_is;
  knows = more old p.one p.found p.mid p.knows;
  left = p.left;
}

pub known : {Found : Type 0} (ended : Status) (part : Part Found) (Knows Wanted : Known Found)
    → ((old : World) (course : List Taken) (found : Found) (mid : World) → Knows old course found mid → Wanted old course found mid)
    → Passes ended part Knows → Passes ended part Wanted
known ended part Knows Wanted more passes rest old course new runs =
    passed_known Knows Wanted more rest old course new ended (passes rest old course new runs)

-- a part that is the same as another in other words
pub same_part : {Found : Type 0} (ended : Status) (part other : Part Found) (Knows : Known Found)
    → ((rest : Found → Script) → part rest ≡ other rest) → Passes ended other Knows → Passes ended part Knows
same_part ended part other Knows same passes rest old course new runs =
    passes rest old course new (subst (λ (s : Script). RunsScript s old course new ended) (same rest) runs)

-- ---- Requests.

-- a request was answered, what its answer says was found, and nothing was printed
pub record IsAsked {Found : Type 0} (asked : Request) (finds : Reply → State → Found) (old : World) (course : List Taken) (found : Found)
    (mid : World) : Type 0 where
  pub taken : Taken
  pub course_is : course ≡ taken ∷ []
  pub asked_is : taken.asked ≡ asked
  pub found_is : found ≡ finds taken.answer taken.after
  pub after : mid.state ≡ taken.after
  pub step : Step asked old.state old.files taken.answer taken.after mid.files
  pub report : mid.report ≡ old.report

-- a request was answered, and it wasn't refused
pub record IsTaken {Found : Type 0} (asked : Request) (finds : Reply → State → Found) (old : World) (course : List Taken) (found : Found)
    (mid : World) : Type 0 where
  pub is : IsAsked asked finds old course found mid
  pub fine : is_refusal is.taken.answer ≡ false

-- what is known of the part that was the request
abbrev answer_passed : {Found : Type 0} (asked : Request) (finds : Reply → State → Found) (rest : Found → Script) (old : World) (course : List Taken)
    (new : World) (ended : Status)
    → (run : IsAnswered asked (λ answer after. rest (finds answer after)) old course new ended) → IsAsked asked finds old (run.taken ∷ [])
    (finds run.taken.answer run.taken.after) (record old { state = run.taken.after; files = run.files })
answer_passed asked finds rest old course new ended run = record {
  taken = run.taken;
  course_is = refl;
  asked_is = run.asked_is;
  found_is = refl;
  after = refl;
  step = run.step;
  report = refl;
}

-- a request that the script can't go on without, where it can't have been refused
pub needs_passed : {Found : Type 0} (asked : Request) (finds : Reply → State → Found) (rest : Found → Script) (old : World) (course : List Taken) (new : World)
    (ended : Status)
    → IsWhole ended → (IsRefused asked old course new ended → ⊥)
    → RunsScript (needs asked (λ answer after. rest (finds answer after))) old course new ended → Passed (IsTaken asked finds) rest old course new ended
needs_passed asked finds rest old course new ended whole fine runs =
    let next = λ (answer : Reply) (after : State). rest (finds answer after) in
    let done = need_taken asked next old course new ended whole fine (need_run asked next old course new ended runs) in
    let run = done.run in
    record {
      one = run.taken ∷ [];
      two = run.later;
      found = finds run.taken.answer run.taken.after;
      mid = record old { state = run.taken.after; files = run.files };
      course_is = run.course_is;
      knows = record { is = answer_passed asked finds rest old course new ended run; fine = done.fine };
      left = run.left;
    }

-- such a request was answered and not refused, in a script that ended well
pub needs_passes : {Found : Type 0} (asked : Request) (finds : Reply → State → Found)
    → Passes status.AllOk (λ (rest : Found → Script). needs asked (λ answer after. rest (finds answer after))) (IsTaken asked finds)
needs_passes asked finds rest old course new runs =
    needs_passed asked finds rest old course new status.AllOk ok_is_whole (refused_is_not_ok asked old course new) runs

-- ---- Requests that were done, and nothing was printed.

-- these requests were done, one after the other
pub record Did (requests : List Request) (old : World) (course : List Taken) (new : World) : Type 0 where
  pub run : Run old.state old.files course new.state new.files
  pub all : requests_of course ≡ requests
  pub fine : has_refusal course ≡ false
  pub report : new.report ≡ old.report

-- a part asked these requests, and they were done
abbrev pub Does : {Found : Type 0} → List Request → Known Found
Does requests old course found mid = Did requests old course mid

pub taken_did : {Found : Type 0} (asked : Request) (finds : Reply → State → Found) (old : World) (course : List Taken) (found : Found) (mid : World)
    → IsTaken asked finds old course found mid → Did (asked ∷ []) old course mid
taken_did asked finds old course found mid it =
    let is = it.is in
    let fine = it.fine in
    subst (λ (c : List Taken). Did (asked ∷ []) old c mid) (sym is.course_is) (record {
      run =
          (mid.files, subst (λ (q : Request). Step q old.state old.files is.taken.answer is.taken.after mid.files) (sym is.asked_is) is.step, (is.after, refl));
      all = ap (λ (q : Request). q ∷ []) is.asked_is;
      fine = rw fine refl;
      report = is.report;
    })

pub carries_passed : (asked : Request) (rest : Unit {0} → Script) (old : World) (course : List Taken) (new : World) (ended : Status)
    → IsWhole ended → (IsRefused asked old course new ended → ⊥) → RunsScript (carries asked rest) old course new ended
    → Passed (Does (asked ∷ [])) rest old course new ended
unfolding carries
carries_passed asked rest old course new ended whole fine runs =
    passed_known (IsTaken asked (λ answer after. tt)) (Does (asked ∷ [])) (taken_did asked (λ answer after. tt)) rest old course new ended
    (needs_passed asked (λ answer after. tt) rest old course new ended whole fine runs)

pub carries_passes : (asked : Request) → Passes status.AllOk (carries asked) (Does (asked ∷ []))
carries_passes asked rest old course new runs =
    carries_passed asked rest old course new status.AllOk ok_is_whole (refused_is_not_ok asked old course new) runs

-- two runs, one after the other
pub run_both : (old mid new : State) (told files after : Option Files) (one two : List Taken) → Run old told one mid files → Run mid files two new after
    → Run old told (one ++ two) new after
run_both old mid new told files after [] two run next =
    subst (λ (s : State). Run s told two new after) run.0 (subst (λ (f : Option Files). Run mid f two new after) run.1 next)
run_both old mid new told files after (taken ∷ one) two run next =
    (run.0, run.1, run_both taken.after mid new run.0 files after one two run.2 next)

both_fine : (one two : List Taken) → has_refusal one ≡ false → has_refusal two ≡ false → has_refusal (one ++ two) ≡ false
both_fine [] two first second = second
both_fine (taken ∷ one) two first second = go (is_refusal taken.answer) first (λ fine. both_fine one two fine second)
  where
    go : (here : Bool) → (here || has_refusal one) ≡ false → (has_refusal one ≡ false → has_refusal (one ++ two) ≡ false)
        → (here || has_refusal (one ++ two)) ≡ false
    go true fine next = fine
    go false fine next = next fine

pub did_both : (first second : List Request) (old mid new : World) (one two : List Taken) → Did first old one mid → Did second mid two new
    → Did (first ++ second) old (one ++ two) new
did_both first second old mid new one two a b = record {
  run = run_both old.state mid.state new.state old.files mid.files new.files one two a.run b.run;
  all = map-append (λ (taken : Taken). taken.asked) one two ∙ ap (λ (l : List Request). l ++ requests_of two) a.all
      ∙ ap (λ (l : List Request). first ++ l) b.all;
  fine = both_fine one two a.fine b.fine;
  report = b.report ∙ a.report;
}

-- nothing was asked
pub did_nothing : (now : World) → Did [] now [] now
did_nothing now = record { run = (refl, refl); all = refl; fine = refl; report = refl }

-- ---- One part after the other.

pub record Then {First Found : Type 0} (Before : Known First) (Behind : First → Known Found) (old : World) (course : List Taken) (found : Found)
    (new : World) : Type 0 where
  pub one : List Taken
  pub two : List Taken
  pub first : First
  pub mid : World
  pub course_is : course ≡ one ++ two
  pub before : Before old one first mid
  pub behind : Behind first mid two found new

pub both_pass : {First Found : Type 0} (ended : Status) (part : Part First) (next : First → Part Found) (Before : Known First) (Behind : First → Known Found)
    → Passes ended part Before → ((first : First) → Passes ended (next first) (Behind first))
    → Passes ended (λ (rest : Found → Script). part (λ first. next first rest)) (Then Before Behind)
both_pass ended part next Before Behind passes then rest old course new runs =
    let a = passes (λ first. next first rest) old course new runs in
    let b = then a.found rest a.mid a.two new a.left in
    joined a b
    (record { one = a.one; two = b.one; first = a.found; mid = a.mid; course_is = refl; before = a.knows; behind = b.knows })

-- two parts of which each asked requests, as one
abbrev pub joined_did : {First Found : Type 0} (first second : List Request) {next : First → Script} {rest : Found → Script}
    {old : World} {course : List Taken} {new : World} {ended : Status}
    → (a : Passed (Does first) next old course new ended) → Passed (Does second) rest a.mid a.two new ended
    → Passed (Does (first ++ second)) rest old course new ended
joined_did first second {old = old} a b = joined a b (did_both first second old a.mid b.mid a.one b.one a.knows b.knows)

-- where each of two parts asks requests, both ask the requests of both
pub does_both : {Found : Type 0} (ended : Status) (part : Part (Unit {0})) (next : Part Found) (first second : List Request)
    → Passes ended part (Does first) → Passes ended next (Does second)
    → Passes ended (λ (rest : Found → Script). part (λ none. next rest)) (Does (first ++ second))
does_both ended part next first second passes then rest old course new runs =
    let a = passes (λ none. next rest) old course new runs in
    joined_did first second a (then rest a.mid a.two new a.left)

-- ---- A part for each thing of a list.

-- what is known of no things, and of one more thing in front of others, is known of all
pub through_passes : {Thing Found : Type 0} (ended : Status) (part : Thing → Found → Part Found) (One : Thing → Found → Known Found)
    (All : List Thing → Found → Known Found)
    → ((found : Found) (now : World) → All [] found now [] found now)
    → ((thing : Thing) (things : List Thing) (begun found last : Found) (old mid new : World) (one two : List Taken)
    → One thing begun old one found mid → All things found mid two last new → All (thing ∷ things) begun old (one ++ two) last new)
    → ((thing : Thing) (found : Found) → Passes ended (part thing found) (One thing found))
    → (things : List Thing) (found : Found) → Passes ended (through part things found) (All things found)
unfolding through
through_passes {Found = Found} ended part One All none more passes [] found rest old course new runs = at_once found runs (none found old)
through_passes {Found = Found} ended part One All none more passes (thing ∷ things) found rest old course new runs =
    let next = λ (now : Found). through part things now rest in
    let a = passes thing found next old course new runs in
    let b = through_passes ended part One All none more passes things a.found rest a.mid a.two new a.left in
    joined a b (more thing things found a.found b.found old a.mid b.mid a.one b.one a.knows b.knows)

-- where the part of each thing asks requests, the parts of all ask the requests of all
pub through_does : {Thing : Type 0} (ended : Status) (part : Thing → Unit {0} → Part (Unit {0})) (requests : Thing → List Request)
    → ((thing : Thing) → Passes ended (part thing tt) (Does (requests thing)))
    → (things : List Thing) → Passes ended (through part things tt) (Does (flat_map requests things))
through_does ended part requests passes things =
    through_passes ended part (λ thing begun. Does (requests thing)) (λ all begun. Does (flat_map requests all))
    (λ found now. did_nothing now)
    (λ thing all begun found last old mid new one two a b. did_both (requests thing) (flat_map requests all) old mid new one two a b)
    (λ thing none. passes thing) things tt

-- a part for each of many numbers is one for each thing of their list
pub each_passes : {Found : Type 0} (ended : Status) (start count : ℕ) (part : ℕ → Found → Part Found) (found : Found) (Knows : Known Found)
    → Passes ended (through part (range_with_len start count) found) Knows → Passes ended (each start count part found) Knows
unfolding each
each_passes ended start count part found Knows passes = passes

-- what is known of no numbers, and of one more number in front of others, is known of all from the first on
pub numbers_pass : {Found : Type 0} (ended : Status) (part : ℕ → Found → Part Found) (One : ℕ → Found → Known Found) (All : ℕ → ℕ → Found → Known Found)
    → ((i : ℕ) (found : Found) (now : World) → All i 0 found now [] found now)
    → ((i n : ℕ) (begun found last : Found) (old mid new : World) (one two : List Taken)
    → One i begun old one found mid → All (i + 1) n found mid two last new → All i (suc n) begun old (one ++ two) last new)
    → ((i : ℕ) (found : Found) → Passes ended (part i found) (One i found))
    → (count start : ℕ) (found : Found) → Passes ended (each start count part found) (All start count found)
unfolding each through
numbers_pass {Found = Found} ended part One All none more passes zero start found rest old course new runs = at_once found runs (none start found old)
numbers_pass {Found = Found} ended part One All none more passes (suc n) start found rest old course new runs =
    let next = λ (now : Found). each (start + 1) n part now rest in
    let a = passes start found next old course new runs in
    let b = numbers_pass ended part One All none more passes n (start + 1) a.found rest a.mid a.two new a.left in
    joined a b (more start n found a.found b.found old a.mid b.mid a.one b.one a.knows b.knows)

pub each_does : (ended : Status) (start count : ℕ) (part : ℕ → Unit {0} → Part (Unit {0})) (requests : ℕ → List Request)
    → ((i : ℕ) → Passes ended (part i tt) (Does (requests i))) → Passes ended (each start count part tt) (Does (flat_map requests (range_with_len start count)))
each_does ended start count part requests passes =
    each_passes ended start count part tt _ (through_does ended part requests passes (range_with_len start count))

-- ---- Loops in other words.

through_both : {Thing Found : Type 0} (part : Thing → Found → Part Found) (xs ys : List Thing) (found : Found) (rest : Found → Script)
    → through part (xs ++ ys) found rest ≡ through part xs found (λ now. through part ys now rest)
unfolding through
through_both part [] ys found rest = refl
through_both part (x ∷ xs) ys found rest = ap (part x found) (fun_ext (λ now. through_both part xs ys now rest))

-- a loop within a loop is one loop
pub nested : {X Thing Found : Type 0} (outer : X → Found → Part Found) (part : Thing → Found → Part Found) (things : X → List Thing)
    → ((x : X) (found : Found) (rest : Found → Script) → outer x found rest ≡ through part (things x) found rest)
    → (xs : List X) (found : Found) (rest : Found → Script) → through outer xs found rest ≡ through part (flat_map things xs) found rest
unfolding through
nested outer part things same [] found rest = refl
nested outer part things same (x ∷ xs) found rest =
    ap (outer x found) (fun_ext (λ now. nested outer part things same xs now rest))
    ∙ same x found (λ now. through part (flat_map things xs) now rest)
    ∙ sym (through_both part (things x) (flat_map things xs) found rest)

-- a loop over numbers is one over the things that they name
pub named : {X Thing Found : Type 0} (outer : X → Found → Part Found) (part : Thing → Found → Part Found) (thing : X → Thing)
    → ((x : X) (found : Found) (rest : Found → Script) → outer x found rest ≡ part (thing x) found rest)
    → (xs : List X) (found : Found) (rest : Found → Script) → through outer xs found rest ≡ through part (map thing xs) found rest
unfolding through
named outer part thing same [] found rest = refl
named outer part thing same (x ∷ xs) found rest =
    ap (outer x found) (fun_ext (λ now. named outer part thing same xs now rest))
    ∙ same x found (λ now. through part (map thing xs) now rest)

pub each_named : {Thing Found : Type 0} (part : Thing → Found → Part Found) (start count : ℕ) (outer : ℕ → Found → Part Found) (thing : ℕ → Thing)
    → ((i : ℕ) (found : Found) (rest : Found → Script) → outer i found rest ≡ part (thing i) found rest)
    → (found : Found) (rest : Found → Script) → each start count outer found rest ≡ through part (map thing (range_with_len start count)) found rest
unfolding each
each_named part start count outer thing same found rest = named outer part thing same (range_with_len start count) found rest

pub each_nested : {Thing Found : Type 0} (part : Thing → Found → Part Found) (start count : ℕ) (outer : ℕ → Found → Part Found) (things : ℕ → List Thing)
    → ((i : ℕ) (found : Found) (rest : Found → Script) → outer i found rest ≡ through part (things i) found rest)
    → (found : Found) (rest : Found → Script) → each start count outer found rest ≡ through part (flat_map things (range_with_len start count)) found rest
unfolding each
each_nested part start count outer things same found rest = nested outer part things same (range_with_len start count) found rest

-- ---- Parts that many scripts have.

pub sets_rate_passed : (bay : ℕ) (rate : Rate) (rest : Unit {0} → Script) (old : World) (course : List Taken) (new : World) (ended : Status)
    → IsWhole ended → (IsRefused (request.SetRate bay R250) old course new ended → ⊥) → RunsScript (sets_rate bay rate rest) old course new ended
    → Passed (Does (rate_requests rate bay)) rest old course new ended
unfolding sets_rate
sets_rate_passed bay R500 rest old course new ended whole fine runs = at_once tt runs (did_nothing old)
sets_rate_passed bay R250 rest old course new ended whole fine runs = carries_passed (request.SetRate bay R250) rest old course new ended whole fine runs

pub sets_rate_passes : (bay : ℕ) (rate : Rate) → Passes status.AllOk (sets_rate bay rate) (Does (rate_requests rate bay))
sets_rate_passes bay rate rest old course new runs =
    sets_rate_passed bay rate rest old course new status.AllOk ok_is_whole (refused_is_not_ok (request.SetRate bay R250) old course new) runs

pub acknowledges_passes : (bay : ℕ) (rate : Rate) → Passes status.AllOk (acknowledges bay rate) (Does (request.Ack bay ∷ rate_requests rate bay))
unfolding acknowledges
acknowledges_passes bay rate = does_both status.AllOk (carries (request.Ack bay)) (sets_rate bay rate) (request.Ack bay ∷ []) (rate_requests rate bay)
    (carries_passes (request.Ack bay)) (sets_rate_passes bay rate)

-- a disk was put in, and has this shape
pub record Opened (name : List ℕ) (old : World) (course : List Taken) (shape : Shape) (mid : World) : Type 0 where
  pub did : Did (request.Insert 0 name ∷ []) old course mid
  pub there : shape_in (bay_of mid.state.station 0) ≡ Some shape

-- a disk was put in, if the request for it was answered and not refused
taken_opened : (name : List ℕ) (old : World) (course : List Taken) (shape : Shape) (mid : World)
    → IsTaken (request.Insert 0 name) (λ answer after. shape_at after 0) old course shape mid → Opened name old course shape mid
taken_opened name old course shape mid it =
    let is = it.is in
    let there = shape_put name is.taken.answer old.state is.taken.after old.files mid.files it.fine is.step in
    record {
      did = taken_did (request.Insert 0 name) (λ answer after. shape_at after 0) old course shape mid it;
      there = ap (λ (s : State). shape_in (bay_of s.station 0)) is.after ∙ there ∙ ap (λ (s : Shape). Some s) (sym is.found_is);
    }

pub opens_passed : (name : List ℕ) (rest : Shape → Script) (old : World) (course : List Taken) (new : World) (ended : Status)
    → IsWhole ended → (IsRefused (request.Insert 0 name) old course new ended → ⊥) → RunsScript (opens name rest) old course new ended
    → Passed (Opened name) rest old course new ended
unfolding opens
opens_passed name rest old course new ended whole fine runs =
    let finds : Reply → State → Shape = λ answer after. shape_at after 0 in
    passed_known (IsTaken (request.Insert 0 name) finds) (Opened name) (taken_opened name) rest old course new ended
    (needs_passed (request.Insert 0 name) finds rest old course new ended whole fine runs)

pub opens_passes : (name : List ℕ) → Passes status.AllOk (opens name) (Opened name)
opens_passes name rest old course new runs =
    opens_passed name rest old course new status.AllOk ok_is_whole (refused_is_not_ok (request.Insert 0 name) old course new) runs

-- a line was put whole
pub record Said (line : List ℕ) (old : World) (course : List Taken) (none : Unit {0}) (mid : World) : Type 0 where
  pub nothing : course ≡ []
  pub state : mid.state ≡ old.state
  pub files : mid.files ≡ old.files
  pub report : mid.report ≡ grown old.report (line ∷ [])

pub says_passes : (ended : Status) → IsWhole ended → (line : List ℕ) → Passes ended (says line) (Said line)
unfolding says
says_passes ended whole line rest old course new (inl runs) = record {
  one = [];
  two = course;
  found = tt;
  mid = record old { report = grown old.report (line ∷ []) };
  course_is = refl;
  knows = record { nothing = refl; state = refl; files = refl; report = refl };
  left = runs;
}
says_passes ended whole line rest old course new (inr cut) = absurd (whole.put cut.1.1)

-- ---- The end.

-- a part was gone through, and then the last lines were put
pub record Over {Found : Type 0} (Knows : Known Found) (line : Found → List (List ℕ)) (wanted : Found → Status) (old : World) (course : List Taken) (new : World)
    (ended : Status) : Type 0 where
  pub found : Found
  pub mid : World
  pub knows : Knows old course found mid
  pub state : new.state ≡ mid.state
  pub files : new.files ≡ mid.files
  pub prints : Prints (line found) (wanted found) mid.report new.report ended

pub over : {Found : Type 0} (ended : Status) (part : Part Found) (Knows : Known Found) (line : Found → List (List ℕ)) (wanted : Found → Status)
    → Passes ended part Knows
    → (old : World) (course : List Taken) (new : World)
    → RunsScript (part (λ found. Ends (line found) (wanted found))) old course new ended → Over Knows line wanted old course new ended
over ended part Knows line wanted passes old course new runs =
    let a = passes (λ found. Ends (line found) (wanted found)) old course new runs in
    let b = last_run (line a.found) (wanted a.found) a.mid a.two new ended a.left in
    record {
      found = a.found;
      mid = a.mid;
      knows = subst (λ (c : List Taken). Knows old c a.found a.mid) (sym (a.course_is ∙ ap (λ (l : List Taken). a.one ++ l) b.0 ∙ append-nil a.one)) a.knows;
      state = b.1.state;
      files = b.1.files;
      prints = b.1.report;
    }

-- a part was gone through, and then a file was stored, and the last line put
pub record StoredOver {Found : Type 0} (Knows : Known Found) (name : List ℕ) (bytes line : Found → List ℕ) (wanted : Found → Status) (old : World)
    (course : List Taken) (new : World) (ended : Status) : Type 0 where
  pub found : Found
  pub mid : World
  pub knows : Knows old course found mid
  pub stores : StoresLast name (bytes found) (line found) (wanted found) mid new ended
