-- `Cursor::signs` meets its contract: four codes in turn.
use Prim.Native.Nat.{◌≤◌}
use native.Mathlib.Omega.{arith}
use lib.IntN.{ℤ, pos, negsuc, nat_abs}
use lib.Signed.{mag}
use Rattle.standard.specs.Bins.{signs}
use Rattle.standard.proofs.Elements.{sign_code}
use Rattle.standard.proofs.Signed.{four_back}
use Rattle.bins.proofs.Fours.{cut_first, cut_second, cut_third, cut_fourth, took_four}
use Rattle.bins.proofs.Steps.{known_taken, valued_taken}
use Rattle.bins.proofs.Cursor.signs.Goals as goal

pub returns-in_err-o1 : goal.returns-in_err-o1
unfolding signs
returns-in_err-o1 c =
    let f = c.args.f in
    cut_first (sign_code f.o1) (sign_code f.o2) (sign_code f.o3) (sign_code f.o4) c.sign.ensures c.in_err-o1.was c.from_residual.ensures

pub returns-in_err-o2 : goal.returns-in_err-o2
unfolding signs
returns-in_err-o2 c =
    let f = c.args.f in
    cut_second (sign_code f.o1) (sign_code f.o2) (sign_code f.o3) (sign_code f.o4) c.sign.ensures c.in_ok-o1.was c.sign-2.ensures
    c.in_err-o2.was c.from_residual-in_err-o2.ensures

pub returns-in_err-o3 : goal.returns-in_err-o3
unfolding signs
returns-in_err-o3 c =
    let f = c.args.f in
    cut_third (sign_code f.o1) (sign_code f.o2) (sign_code f.o3) (sign_code f.o4) c.sign.ensures c.in_ok-o1.was c.sign-2.ensures c.in_ok-o2.was
    c.sign-3.ensures c.in_err-o3.was c.from_residual-in_err-o3.ensures

pub returns-in_err-o4 : goal.returns-in_err-o4
unfolding signs
returns-in_err-o4 c =
    let f = c.args.f in
    cut_fourth (sign_code f.o1) (sign_code f.o2) (sign_code f.o3) (sign_code f.o4) c.sign.ensures c.in_ok-o1.was c.sign-2.ensures c.in_ok-o2.was
    c.sign-3.ensures c.in_ok-o3.was c.sign-4.ensures c.in_err-o4.was c.from_residual-in_err-o4.ensures

mag_size : (z : ℤ) → mag z ≤ nat_abs z
mag_size (pos n) = omega arith
mag_size (negsuc n) = omega arith

pub returns : goal.returns
unfolding signs
returns c =
    let f = c.args.f in
    let e1 = known_taken c.sign.ensures c.in_ok-o1.was in
    let e2 = known_taken c.sign-2.ensures c.in_ok-o2.was in
    let e3 = known_taken c.sign-3.ensures c.in_ok-o3.was in
    let e4 = known_taken c.sign-4.ensures c.in_ok-o4.was in
    valued_taken
    (took_four (sign_code f.o1) (sign_code f.o2) (sign_code f.o3) (sign_code f.o4) c.sign.ensures c.in_ok-o1.was c.sign-2.ensures c.in_ok-o2.was
    c.sign-3.ensures c.in_ok-o3.was c.sign-4.ensures c.in_ok-o4.was)
    (four_back
    (omega (arith, mag_size c.in_ok-o1.o1, e1.spells.0, c.requires.0))
    (omega (arith, mag_size c.in_ok-o2.o2, e2.spells.0, c.requires.1))
    (omega (arith, mag_size c.in_ok-o3.o3, e3.spells.0, c.requires.2))
    (omega (arith, mag_size c.in_ok-o4.o4, e4.spells.0, c.requires.3)))
