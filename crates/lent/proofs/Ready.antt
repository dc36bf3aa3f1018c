-- Of a CTU that is due: its entry and those of its neighbours lie in a table of the right length, and none of the first reasons holds.
use Rattle.std.specs.Prelude.{Option, Some as some, None as none}
use mathlib.Core.Path.{◌≡◌, refl}
use mathlib.Core.List.{List, ◌++◌}
use Prim.Native.Nat.{ℕ, ◌+◌, ◌*◌, ◌≤◌, ◌<◌}
use native.Mathlib.Omega.{arith}
use lib.ListN.{length}
use Rattle.standard.specs.declared.Picture.{Picture}
use Rattle.standard.specs.Picture.{ctu_count, due, merge_left, merge_up}
use Rattle.standard.specs.Table.{entry_size}
use Rattle.standard.specs.Refusals.{Clear}
use Rattle.standard.specs.Reasons.{TableFits, call_reasons, due_reasons}
use Rattle.standard.proofs.Grid.{count_most}
use Rattle.standard.proofs.Order.{address_lt, Before, left_before, up_before}
use Rattle.geometry.specs.declared.due.Due.{Due}
use Rattle.geometry.specs.Dues.{state_of}
use Rattle.lent.specs.InTable.{InTable}

module _ (p : Picture) (table : List ℕ) (fits : TableFits p table) where
  pub entry_fits : {k : ℕ} → k < ctu_count p → entry_size * k + entry_size ≤ length table
  entry_fits l = omega (arith, fits, l)

  in_table : (near : Option ℕ) → ((k : ℕ) → near ≡ some k → k < ctu_count p) → InTable table near
  in_table none h = tt
  in_table (some k) h = entry_fits (h k refl)

pub next_lt : (d : Due) → d.next < 4294967295
next_lt d = omega (arith, d.there, count_most d.of.rules)

module _ (d : Due) (table : List ℕ) (fits : TableFits d.of.picture table) where
  -- what was read before lies in the table
  before_in_table : (near : Option ℕ) → Before (state_of d) near → InTable table near
  before_in_table near before =
      in_table d.of.picture table fits near
      (λ k e. let b = before k e in
      rw b.2 (address_lt d.of.picture (omega (arith, b.1, d.there))))

  pub left_in_table : InTable table (merge_left (state_of d))
  left_in_table = before_in_table (merge_left (state_of d)) (left_before (state_of d) d.of.rules)

  pub up_in_table : InTable table (merge_up (state_of d))
  up_in_table = before_in_table (merge_up (state_of d)) (up_before (state_of d) d.of.rules)

  pub due_fits : entry_size * due (state_of d) + entry_size ≤ length table
  due_fits = entry_fits d.of.picture table fits (address_lt d.of.picture d.there)

  -- none of the reasons with which reading and writing begin holds
  pub due_clear : Clear (call_reasons (state_of d) (TableFits d.of.picture table) ++ due_reasons (state_of d))
  due_clear = (λ n. n d.of.rules, (λ n. n fits, (λ l. omega (arith, l, d.there), (λ l. omega (arith, l, d.there), tt))))
