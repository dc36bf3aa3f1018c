-- What holds of the world at every moment, and how calls move it: the marks and the next CTU tell which of them were accepted.
use mathlib.Core.Path.{◌≡◌, sym, ◌∙◌, subst}
use mathlib.Core.Logic.{◌⊎◌, inl, inr, ⊎_elim}
use Prim.Native.Nat.{ℕ, ◌+◌, ◌≤◌, ◌<◌}
use native.Mathlib.Omega.{arith}
use Rattle.standard.specs.declared.Picture.{Picture}
use Rattle.standard.specs.Picture.{Rules, ctu_count}
use Rattle.standard.specs.Reasons.{Planes, mark_of}
use Rattle.promises.specs.World.{World, picture_of}
use Rattle.promises.specs.Demands.{Own}
use Rattle.promises.proofs.Stored.{SetsIn}
use Rattle.promises.proofs.Blocks.{Blocks}

abbrev pub mark : World → ℕ → ℕ → ℕ
mark w i k = mark_of (picture_of w) w.marks i k

-- own is the picture's own data, and first the filtered planes at opening
pub record Holds (own : Own) (first : Planes) (w : World) : Type 0 where
  pub rules : Rules (picture_of w)
  pub sets : SetsIn w.state own.parameters w.table
  pub blocks : Blocks own first (picture_of w) w.deblocked w.filtered w.marks

-- ---- one mark

-- before and after calls of which one accepted filters its block, if F, and one delivers it, if D
pub record Moved (F D : Type 0) (before after : ℕ) : Type 0 where
  pub still_filtered : before ≡ 2 → after ≡ 2
  pub still_delivered : 1 ≤ before → 1 ≤ after
  pub filtered : F → after ≡ 2
  pub delivered : D → 1 ≤ after
  pub because : after ≡ 2 → (before ≡ 2) ⊎ F

module _ {F D : Type 0} {before after : ℕ} where
  pub idle : ¬ F → ¬ D → after ≡ before → Moved F D before after
  idle f d e = record {
    still_filtered = λ h. e ∙ h;
    still_delivered = λ h. omega arith;
    filtered = λ t. absurd (f t);
    delivered = λ t. absurd (d t);
    because = λ h. inl (sym e ∙ h);
  }

  pub now_delivered : ¬ F → before ≡ 0 → after ≡ 1 → Moved F D before after
  now_delivered f a b = record {
    still_filtered = λ h. absurd (omega arith);
    still_delivered = λ h. omega arith;
    filtered = λ t. absurd (f t);
    delivered = λ t. omega arith;
    because = λ h. absurd (omega arith);
  }

  pub now_filtered : F → after ≡ 2 → Moved F D before after
  now_filtered f b = record {
    still_filtered = λ h. b;
    still_delivered = λ h. omega arith;
    filtered = λ t. b;
    delivered = λ t. omega arith;
    because = λ h. inr f;
  }

pub moved_then : {F F' D D' : Type 0} {a b c : ℕ} → Moved F D a b → Moved F' D' b c → Moved (F ⊎ F') (D ⊎ D') a c
moved_then one two = record {
  still_filtered = λ h. two.still_filtered (one.still_filtered h);
  still_delivered = λ h. two.still_delivered (one.still_delivered h);
  filtered = λ t. ⊎_elim (λ f. two.still_filtered (one.filtered f)) two.filtered t;
  delivered = λ t. ⊎_elim (λ d. two.still_delivered (one.delivered d)) two.delivered t;
  because = λ h. ⊎_elim (λ e. ⊎_elim inl (λ f. inr (inl f)) (one.because e)) (λ f. inr (inr f)) (two.because h);
}

-- ---- the world

-- before and after calls that filter the blocks of F, deliver those of D, and store n sets
pub record Moves (own : Own) (first : Planes) (F D : ℕ → ℕ → Type 0) (n : ℕ) (w w' : World) : Type 0 where
  pub picture : picture_of w' ≡ picture_of w
  pub holds : Holds own first w'
  pub marks : (i k : ℕ) → k < ctu_count (picture_of w) → Moved (F i k) (D i k) (mark w i k) (mark w' i k)
  pub next : w'.state.next ≡ w.state.next + n

pub moves_then : {own : Own} {first : Planes} {F F' D D' : ℕ → ℕ → Type 0} {m n : ℕ} {a b c : World} → Moves own first F D m a b
    → Moves own first F' D' n b c → Moves own first (λ i k. F i k ⊎ F' i k) (λ i k. D i k ⊎ D' i k) (m + n) a c
moves_then one two = record {
  picture = two.picture ∙ one.picture;
  holds = two.holds;
  marks = λ i k h. moved_then (one.marks i k h) (two.marks i k (subst (λ (p : Picture). k < ctu_count p) (sym one.picture) h));
  next = omega (arith, one.next, two.next);
}
