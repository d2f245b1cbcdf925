-- How the fields of a request's line are read, one after another: the first fault refuses the request. This is the project's own.
use Rattle.std.specs.Prelude.{ok_or, Option, Result, Ok, Err}
use Rattle.session_client.specs.declared.code.Code.{Code, TheVariants.Parameter}

infixl 10 ◌>>=◌
-- what is read, and then what follows it; or else the first fault
abbrev pub ◌>>=◌ : {A B : Type 0} → Result A Code → (A → Result B Code) → Result B Code
(Ok value) >>= next = next value
(Err code) >>= next = Err code

-- a field that has to be there, and to be in form
abbrev pub in_form : {A : Type 0} → Option A → Result A Code
in_form field = ok_or field Parameter
