-- What clap makes of a command that has only positional arguments (places), where its words come after `--`.
use Rattle.std.proofs.Common.{◌≡◌, ◌∙◌, List, [], ◌∷◌, Option, Some, None, IsSome, true, codes, refl, ap, ap₂}
use Rattle.clap.specs.Words.{App, HasMatchesOf, Row, Text, first_of, first_value, found_of, is_simple, matches_of, rows_of}
use Rattle.floppy_words.specs.Places.{one_place, two_places, three_places}
use Rattle.clap.specs.declared.parser.matches.Found.{Found}
use Rattle.clap.specs.declared.parser.matches.ArgMatches.{ArgMatches}
use Rattle.clap.proofs.OnLiterals.{clap_on_literals}
use Rattle.clap.proofs.WalkLemmas.{first_value-rows}

abbrev pub behind : Text → List Text → List Text
behind verb words = verb ∷ codes "--" ∷ words

pub one_simple : (verb : Text) → is_simple (one_place verb) ≡ true
unfolding clap_on_literals
one_simple verb = refl

pub one_first : (verb word : Text) → first_of (codes "FIRST") (matches_of (one_place verb) (behind verb (word ∷ []))) ≡ Some word
unfolding clap_on_literals
one_first verb word = refl

pub two_simple : (verb : Text) → is_simple (two_places verb) ≡ true
unfolding clap_on_literals
two_simple verb = refl

pub two_first : (verb word next : Text) → first_of (codes "FIRST") (matches_of (two_places verb) (behind verb (word ∷ next ∷ []))) ≡ Some word
unfolding clap_on_literals
two_first verb word next = refl

pub two_second : (verb word next : Text) → first_of (codes "SECOND") (matches_of (two_places verb) (behind verb (word ∷ next ∷ []))) ≡ Some next
unfolding clap_on_literals
two_second verb word next = refl

pub three_simple : (verb : Text) → is_simple (three_places verb) ≡ true
unfolding clap_on_literals
three_simple verb = refl

pub three_first : (verb word next last : Text) → first_of (codes "FIRST") (matches_of (three_places verb) (behind verb (word ∷ next ∷ last ∷ []))) ≡ Some word
unfolding clap_on_literals
three_first verb word next last = refl

pub three_second : (verb word next last : Text) → first_of (codes "SECOND") (matches_of (three_places verb) (behind verb (word ∷ next ∷ last ∷ []))) ≡ Some next
unfolding clap_on_literals
three_second verb word next last = refl

pub three_third : (verb word next last : Text) → first_of (codes "THIRD") (matches_of (three_places verb) (behind verb (word ∷ next ∷ last ∷ []))) ≡ Some last
unfolding clap_on_literals
three_third verb word next last = refl

-- the first value of a place, by the rows of the matches
pub found : (f : Found) (id word : Text) (rows : List Row) → rows_of f ≡ rows → first_of id rows ≡ Some word → first_value f id ≡ Some word
found f id word rows e first = first_value-rows f id ∙ ap (first_of id) e ∙ first

-- what a parse of the words after a verb finds
pub one_value : (verb word : Text) (a : App) (words : List Text) (m : ArgMatches) → a ≡ one_place verb → words ≡ behind verb (word ∷ [])
    → HasMatchesOf a words m → first_value (found_of m) (codes "FIRST") ≡ Some word
one_value verb word a words m app_is words_are has =
    found (found_of m) _ word _ ((has (ap is_simple app_is ∙ one_simple verb)).0 ∙ ap₂ matches_of app_is words_are) (one_first verb word)

pub two_values : (verb word next : Text) (a : App) (words : List Text) (m : ArgMatches) → a ≡ two_places verb → words ≡ behind verb (word ∷ next ∷ [])
    → HasMatchesOf a words m
    → (first_value (found_of m) (codes "FIRST") ≡ Some word) × (first_value (found_of m) (codes "SECOND") ≡ Some next)
two_values verb word next a words m app_is words_are has =
    let rows = (has (ap is_simple app_is ∙ two_simple verb)).0 ∙ ap₂ matches_of app_is words_are in
    (found (found_of m) _ word _ rows (two_first verb word next), found (found_of m) _ next _ rows (two_second verb word next))

pub three_values : (verb word next last : Text) (a : App) (words : List Text) (m : ArgMatches) → a ≡ three_places verb → words ≡ behind verb (word ∷ next ∷ last ∷ [])
    → HasMatchesOf a words m
    → (first_value (found_of m) (codes "FIRST") ≡ Some word) × (first_value (found_of m) (codes "SECOND") ≡ Some next) × (first_value (found_of m) (codes "THIRD") ≡ Some last)
three_values verb word next last a words m app_is words_are has =
    let rows = (has (ap is_simple app_is ∙ three_simple verb)).0 ∙ ap₂ matches_of app_is words_are in (
      found (found_of m) _ word _ rows (three_first verb word next last),
      found (found_of m) _ next _ rows (three_second verb word next last),
      found (found_of m) _ last _ rows (three_third verb word next last),
    )

-- a place that was read as this word has a word
pub is_there : (read : Option Text) (word : Text) → read ≡ Some word → IsSome read
is_there (Some text) word e = refl
is_there None word e = absurd cc

-- the word that is kept of such a place is this one
pub is_word : (read : Option Text) (text word : Text) → read ≡ Some word → read ≡ Some text → text ≡ word
is_word read text word e same = cc
