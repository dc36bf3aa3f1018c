-- `Cursor::full` meets its contract: luma, then both chroma components.
use mathlib.Core.Path.{ap, ap₂, sym}
use Prim.Native.Nat.{ℕ}
use Rattle.std.specs.Prelude.{Some}
use Rattle.standard.specs.Sets.{most}
use Rattle.standard.proofs.Ctu.{luma_code, two_code, ctu_set, full_code}
use Rattle.bins.proofs.ByReader.{Reads, takes}
use Rattle.bins.proofs.Readers.{full_read}
use Rattle.bins.proofs.Steps.{known, missed, read_as, then_took, then_cut, mapped_took}
use Rattle.bins.proofs.Cursor.full.Goals as goal
use Rattle.bins.proofs.Cursor.full.Goals.{In_ok-luma}

luma-read : (c : In_ok-luma)
    → let a = c.args in
    Reads a.self (luma_code a.s.luma (most a.s 0)).read (Some (c.in_ok-luma.luma, c.in_ok-luma.c1))
luma-read c =
    let s = c.args.s in
    read_as (λ l. ap (λ (n : ℕ). (luma_code s.luma n).read l) (sym c.most_of.ensures)) (known (luma_code _ _) c.luma.ensures c.in_ok-luma.was)

pub returns-in_err-luma : goal.returns-in_err-luma
returns-in_err-luma c =
    let s = c.args.s in
    missed c.from_residual.ensures (takes (full_code _) (read_as (full_read s)
    (then_cut _ (read_as (λ l. ap (λ (n : ℕ). (luma_code s.luma n).read l) (sym c.most_of.ensures)) (known (luma_code _ _) c.luma.ensures c.in_err-luma.was)))))

pub returns-in_err-cb : goal.returns-in_err-cb
returns-in_err-cb c =
    let s = c.args.s in
    missed c.from_residual-in_err-cb.ensures (takes (full_code _) (read_as (full_read s)
    (then_took _ (luma-read (goal.at.returns-in_err-cb c).In_ok-luma)
    (then_cut _ (read_as (λ l. sym (ap₂ (λ (m n : ℕ). (two_code s.chroma m n).read l) c.most_of-2.ensures c.most_of-3.ensures))
    (known (two_code _ _ _) c.chroma.ensures c.in_err-cb.was))))))

pub returns : goal.returns
returns c =
    let s = c.args.s in
    takes (full_code _) (read_as (full_read s)
    (then_took _ (luma-read (goal.at.returns c).In_ok-luma)
    (mapped_took (λ t. ctu_set (c.in_ok-luma.luma, t)) (read_as (λ l. sym (ap₂ (λ (m n : ℕ). (two_code s.chroma m n).read l) c.most_of-2.ensures c.most_of-3.ensures))
    (known (two_code _ _ _) c.chroma.ensures c.in_ok-cb.was)))))
