-- The commands that read the words after a verb: simple commands, with positional arguments (places) alone.
use Rattle.std.specs.Prelude.{Some, true, codes}
use Rattle.clap.specs.Words.{App, Rule, Text, new_app, new_rule, with_rule}
use Rattle.clap.specs.declared.builder.ArgAction.TheVariants.{Set}

-- a place whose word is required
abbrev pub place : Text → Rule
place id = record (new_rule id) { required = true; action = Some Set }

abbrev pub one_place : Text → App
one_place verb = with_rule (new_app verb) (place (codes "FIRST"))

abbrev pub two_places : Text → App
two_places verb = with_rule (one_place verb) (place (codes "SECOND"))

abbrev pub three_places : Text → App
three_places verb = with_rule (two_places verb) (place (codes "THIRD"))
