-- `host_text::form_of` meets its contract: each number's form, and none for a number that is no form's.
use mathlib.Core.Path.{refl}
use Rattle.host_text.proofs.Tellings.{no_such_form}
use Rattle.host_text.proofs.form_of.Goals as goal

pub returns-in-0 : goal.returns-in-0
returns-in-0 c = rw c.in-0.is (λ f l n ys space. refl)

pub returns-in-1 : goal.returns-in-1
returns-in-1 c = rw c.in-1.is (λ f l n ys space. refl)

pub returns-in-2 : goal.returns-in-2
returns-in-2 c = rw c.in-2.is (λ f l n ys space. refl)

pub returns-in-3 : goal.returns-in-3
returns-in-3 c = rw c.in-3.is (λ f l n ys space. refl)

pub returns-in_default : goal.returns-in_default
returns-in_default c = let r = c.in_default.in_default-own.rest in no_such_form _ r.0.0.0.1 r.0.0.1 r.0.1 r.1
