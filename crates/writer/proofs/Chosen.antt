-- A shape is chosen, and only one; its bins are the shortest that mean the set; and a set has bins if and only if those of its shape mean it.
use mathlib.Core.Path.{◌≡◌, refl, ap}
use mathlib.Core.Bool.{Bool, true, false}
use mathlib.Core.List.{List}
use Rattle.std.specs.Prelude.{Option, Some as some}
use Prim.Native.Nat.{◌≤◌, zero-le}
use lib.ListN.{length}
use Rattle.standard.specs.declared.Offsets.TheVariants.{Off}
use Rattle.standard.specs.declared.CtuSet.{CtuSet}
use Rattle.standard.specs.declared.Switches.{Switches}
use Rattle.standard.specs.Sets.{Ruled, Valid, all_off}
use Rattle.standard.specs.Means.{either, any_on, Means, no_bins, merged_left, merged_up, in_full, Shortest}
use Rattle.standard.specs.Refusals.{Tells}
use Rattle.standard.proofs.Ctu.{clash}
use Rattle.standard.proofs.Spelling.{is_it?, means_not_empty, up_least, full_least}
use Rattle.writer.specs.declared.Shape.{Shape}
use Rattle.writer.specs.declared.Shape.TheVariants.{Empty, Left, Up, Full}
use Rattle.writer.specs.Forms.{Meant, Choice, shape_bins}

-- ---- the sets that have bins

pub data HasBins (s : Switches) (left up : Option CtuSet) (q : CtuSet) : Type 0 where
  with_all_off : any_on s ≡ false → q ≡ all_off → HasBins s left up q
  as_left : any_on s ≡ true → left ≡ some q → HasBins s left up q
  as_up : any_on s ≡ true → up ≡ some q → HasBins s left up q
  ruled : Valid s q → HasBins s left up q

pub means_has : {s : Switches} {left up : Option CtuSet} {q : CtuSet} {bins : List Bool} → Means s left up q bins → HasBins s left up q
means_has (no_bins on set is) = with_all_off on set
means_has (merged_left on set is) = as_left on set
means_has (merged_up on set is) = as_up on set
means_has (in_full on valid is) = ruled valid

-- a set within the rules has every component off, where both switches are off
off_by : (luma chroma : Bool) (A B : Type 0) (q : CtuSet) → either luma chroma ≡ false → Ruled luma A (q.luma ≡ Off) → Ruled chroma B ((q.cb ≡ Off) × (q.cr ≡ Off)) → q ≡ all_off
off_by true chroma A B q e l c = clash refl e
off_by false true A B q e l c = clash refl e
off_by false false A B q e l c =
    let t : record { luma = q.luma; cb = q.cb; cr = q.cr } ≡ all_off = cc in
    t

valid_off : {s : Switches} {q : CtuSet} → any_on s ≡ false → Valid s q → q ≡ all_off
valid_off {s} {q} e v = off_by s.luma s.chroma _ _ q e v.luma v.chroma

both_off : (a b : Bool) → either a b ≡ false → (a ≡ false) × (b ≡ false)
both_off true b e = clash refl e
both_off false b e = (refl, e)

off_valid : {s : Switches} {q : CtuSet} → any_on s ≡ false → q ≡ all_off → Valid s q
off_valid {s} {q} e f =
    let b = both_off s.luma s.chroma e in
    record {
      luma = rw b.0 (ap (λ (q : CtuSet). q.luma) f);
      chroma = rw b.1 (ap (λ (q : CtuSet). q.cb) f, ap (λ (q : CtuSet). q.cr) f);
    }

module _ (s : Switches) (left up : Option CtuSet) (q : CtuSet) where
  -- ---- the choice

  choice_by : (on : Bool) → any_on s ≡ on → Dec (left ≡ some q) → Dec (up ≡ some q) → (shape : Shape) × Choice s left up q shape
  choice_by false off l u = (Empty, off)
  choice_by true on (yes l) u = (Left, (on, l))
  choice_by true on (no l) (yes u) = (Up, (on, l, u))
  choice_by true on (no l) (no u) = (Full, (on, l, u))

  -- there is one ..
  pub some_choice : (shape : Shape) × Choice s left up q shape
  some_choice = choice_by (any_on s) refl (is_it? left q) (is_it? up q)

  -- .. and no other
  pub one_choice : (a b : Shape) → Choice s left up q a → Choice s left up q b → a ≡ b
  one_choice Empty Empty c d = refl
  one_choice Empty Left c d = clash d.0 c
  one_choice Empty Up c d = clash d.0 c
  one_choice Empty Full c d = clash d.0 c
  one_choice Left Empty c d = clash c.0 d
  one_choice Left Left c d = refl
  one_choice Left Up c d = absurd (d.1 c.1)
  one_choice Left Full c d = absurd (d.1 c.1)
  one_choice Up Empty c d = clash c.0 d
  one_choice Up Left c d = absurd (c.1 d.1)
  one_choice Up Up c d = refl
  one_choice Up Full c d = absurd (d.2 c.2)
  one_choice Full Empty c d = clash c.0 d
  one_choice Full Left c d = absurd (c.1 d.1)
  one_choice Full Up c d = absurd (c.2 d.2)
  one_choice Full Full c d = refl

  -- ---- its bins

  -- they mean the set, if any do
  pub has_means : (shape : Shape) → Choice s left up q shape → HasBins s left up q → Means s left up q (shape_bins s left up q shape)
  unfolding shape_bins
  has_means Empty off (with_all_off e f) = no_bins off f refl
  has_means Empty off (as_left e f) = clash e off
  has_means Empty off (as_up e f) = clash e off
  has_means Empty off (ruled v) = no_bins off (valid_off off v) refl
  has_means Left (on, l) h = merged_left on l refl
  has_means Up (on, l, u) h = merged_up on u refl
  has_means Full (on, l, u) (with_all_off e f) = clash on e
  has_means Full (on, l, u) (as_left e f) = absurd (l f)
  has_means Full (on, l, u) (as_up e f) = absurd (u f)
  has_means Full (on, l, u) (ruled v) = in_full on v refl

  least : (shape : Shape) → Choice s left up q shape → (other : List Bool) → Means s left up q other → length (shape_bins s left up q shape) ≤ length other
  unfolding shape_bins
  least Empty off other m = zero-le
  least Left (on, l) other m = means_not_empty on m
  least Up (on, l, u) other m = up_least s left up q on l u other m
  least Full (on, l, u) other m = full_least s left up q on l u other m

  pub has_shortest : (shape : Shape) → Choice s left up q shape → HasBins s left up q → Shortest s left up q (shape_bins s left up q shape)
  has_shortest shape c h = record { mean = has_means shape c h; least = least shape c }

  pub written_shortest : (shape : Shape) → Choice s left up q shape → {bins : List Bool} → Means s left up q bins → Shortest s left up q (shape_bins s left up q shape)
  written_shortest shape c m = has_shortest shape c (means_has m)

  -- ---- whether it has bins

  pub has_meant : HasBins s left up q → Meant s left up q
  has_meant h = let c = some_choice in (shape_bins s left up q c.0, has_means c.0 c.1 h)

  pub unmeant_off : any_on s ≡ false → ¬ Valid s q → ¬ Meant s left up q
  unmeant_off e n t = by (means_has t.1)
    where
      by : HasBins s left up q → ⊥
      by (with_all_off f g) = n (off_valid e g)
      by (as_left f g) = clash f e
      by (as_up f g) = clash f e
      by (ruled v) = n v

  unmeant_on : any_on s ≡ true → ¬ Valid s q → ¬ (left ≡ some q) → ¬ (up ≡ some q) → ¬ Meant s left up q
  unmeant_on e n l u t = by (means_has t.1)
    where
      by : HasBins s left up q → ⊥
      by (with_all_off f g) = clash e f
      by (as_left f g) = l g
      by (as_up f g) = u g
      by (ruled v) = n v

  -- where nothing else serves, a merge upwards decides
  pub meant_by_up : any_on s ≡ true → ¬ Valid s q → ¬ (left ≡ some q) → (r : Bool) → Tells (up ≡ some q) r → Tells (Meant s left up q) r
  meant_by_up e n l true u = has_meant (as_up e u)
  meant_by_up e n l false u = unmeant_on e n l u
