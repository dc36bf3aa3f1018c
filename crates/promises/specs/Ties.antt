-- What a call of the code answered and left, as the result of the call in the world: the lent buffers that it may write are replaced, and the others
-- are the caller's.
use Rattle.std.specs.Prelude.{List, [], ℕ, Ok, Err}
use Rattle.std.specs.Prelude as prelude
use Rattle.standard.specs.declared.State.{State}
use Rattle.standard.specs.declared.CtuSet.{CtuSet}
use Rattle.standard.specs.declared.Refusal.{Refusal}
use Rattle.standard.specs.declared.Outcome.{Outcome}
use Rattle.standard.specs.Refusals.{number_of}
use Rattle.standard.specs.Reasons.{Planes}
use Rattle.promises.specs.World.{World, Answer, refused, done, set_read, bins_written, rows, Result}

-- the answer that accepts with the code's value, or a refusal by its number
abbrev pub answered : {T : Type 0} → (T → Answer) → prelude.Result T Refusal → Answer
answered accepts (Ok x) = accepts x
answered accepts (Err r) = refused (number_of r)

-- answer and room, and the world by its parts
abbrev pub resulting : Answer → List ℕ → State → Planes → Planes → List ℕ → List ℕ → Result
resulting answer out state deblocked filtered marks table = record {
  answer = answer;
  out = out;
  world = record { state = state; deblocked = deblocked; filtered = filtered; marks = marks; table = table };
}

abbrev pub after_open : World → Outcome (Unit {0}) → List ℕ → Result
after_open w o marks = resulting (answered (λ x. done) o.answer) [] o.state w.deblocked w.filtered marks w.table

abbrev pub after_deliver : World → Outcome (Unit {0}) → Planes → List ℕ → Result
after_deliver w o deblocked marks = resulting (answered (λ x. done) o.answer) [] o.state deblocked w.filtered marks w.table

abbrev pub after_filter : World → Outcome (Unit {0}) → Planes → List ℕ → Result
after_filter w o filtered marks = resulting (answered (λ x. done) o.answer) [] o.state w.deblocked filtered marks w.table

abbrev pub after_read : World → Outcome CtuSet → List ℕ → Result
after_read w o table = resulting (answered set_read o.answer) [] o.state w.deblocked w.filtered w.marks table

abbrev pub after_write : World → Outcome ℕ → List ℕ → List ℕ → Result
after_write w o out table = resulting (answered bins_written o.answer) out o.state w.deblocked w.filtered w.marks table

-- the companion's number, and the part
abbrev pub after_rows : World → Outcome ℕ → List ℕ → Result
after_rows w o part = resulting (answered (λ n. rows n part) o.answer) [] o.state w.deblocked w.filtered w.marks w.table
