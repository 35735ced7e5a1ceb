-- Runs in which each request was done.
use Rattle.std.specs.Prelude.{◌≡◌, List, Option, false}
use Rattle.laws_commands.specs.Common.{Files, Request, State, Taken, Run, requests_of, has_refusal}

-- the requests were run, with this course, and none was refused
pub record DoesAll (requests : List Request) (old : State) (told : Option Files) (course : List Taken) (new : State) (told_after : Option Files) : Type 0 where
  pub run : Run old told course new told_after
  pub all : requests_of course ≡ requests
  pub done : has_refusal course ≡ false
