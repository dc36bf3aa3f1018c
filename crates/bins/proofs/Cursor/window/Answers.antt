-- `Cursor::window` meets its contract: the window lies in the forty bits, and bits past the count are shifted out.
use mathlib.Core.Path.{ap, ◌∙◌}
use native.Mathlib.Omega.{arith}
use Prim.Native.Nat.{ℕ, ◌-◌, ◌*◌, ◌/◌, ◌%◌, ◌^◌}
use Rattle.standard.specs.Bins.{bits_of}
use Rattle.bins.proofs.Fetch.{window_number, bins_cut, bins_whole}
use Rattle.bins.proofs.Cursor.window.Goals as goal

pub returns-then-left-lt32 : goal.returns-then-left-lt32
returns-then-left-lt32 c =
    let a = c.args.self in
    let past = 32 - (a.count - a.at) in
    ap (λ (x : ℕ). x / 2 ^ past * 2 ^ past % 2 ^ 64)
    (window_number (bits_of a.bytes.now) c.forty.result a.at c.forty.ensures)
    ∙ bins_cut a.bytes.now a.count a.at a.place (omega (arith, c.if-left-lt32.true))

pub returns-else-left-lt32 : goal.returns-else-left-lt32
returns-else-left-lt32 c =
    let a = c.args.self in
    window_number (bits_of a.bytes.now) c.forty.result a.at c.forty.ensures
    ∙ bins_whole a.bytes.now a.count a.at a.place (omega (arith, c.if-left-lt32.false))
