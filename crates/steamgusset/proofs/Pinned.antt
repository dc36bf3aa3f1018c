-- The contracts of the exports have one outcome each: two that hold of the same input have the same answer and leave the same.
use mathlib.Core.List.{List, [], ◌∷◌, ◌++◌}
use mathlib.Core.Path.{◌≡◌, refl, sym, ap, ◌∙◌, subst}
use Prim.Native.Nat.{ℕ, zero, suc}
use lib.ListN.{length}
use Rattle.standard.specs.declared.State.{State}
use Rattle.standard.specs.declared.CtuSet.{CtuSet}
use Rattle.standard.specs.Table.{encode}
use Rattle.standard.specs.Refusals.{Reason, ◌if◌, Clear}
use Rattle.standard.specs.Reasons.{Planes, plane_of, description_reasons, block_reasons, open_reasons, read_reasons, write_reasons, deliver_reasons, filter_reasons, rows_reasons}
use Rattle.standard.specs.Calls.{table_with, state_after, leading}
use Rattle.standard.specs.Ensures.{Wrote}
use Rattle.standard.proofs.Numbers.{first_unique, first_not_clear}
use Rattle.standard.proofs.Reader.{one_meaning}
use Rattle.sets.proofs.Once.{stands_once}
use Rattle.standard.proofs.Granted.{may_deliver, may_filter}
use Rattle.standard.proofs.Finished.{rows_unique}
use Rattle.promises.proofs.Painting.{block_unique}
use Rattle.promises.proofs.Unique.{wrote_unique}
use Rattle.steamgusset.specs.Boundary.{version, numbers_of, state_of}
use Rattle.steamgusset.specs.Exports.{NoStateHoldsThem, Answers, ReadInto, RowsInto, OpenCrosses, ReadCrosses, WriteCrosses, DeliverCrosses, FilterCrosses, RowsCrosses, SizesCross, BlockCrosses}

-- both have acted, or neither has
pub both : (a : List ℕ) (rs : List Reason) (A B C D Same : Type 0) (r t : ℕ) → (Clear rs → A → C → Same) → (B → D → Same)
    → Answers a rs r A B → Answers a rs t C D → (r ≡ t) × Same
both a rs A B C D Same zero zero done before h k = (refl, done h.0.1 h.1 k.1)
both a rs A B C D Same zero (suc n) done before h k = absurd (first_not_clear ((1 if NoStateHoldsThem a) ∷ rs) (suc n) k.0 h.0)
both a rs A B C D Same (suc m) zero done before h k = absurd (first_not_clear ((1 if NoStateHoldsThem a) ∷ rs) (suc m) h.0 k.0)
both a rs A B C D Same (suc m) (suc n) done before h k = (first_unique ((1 if NoStateHoldsThem a) ∷ rs) h.0 k.0, before h.1 k.1)

-- two that are equal to one
one : {A : Type 0} {x y z : A} → x ≡ z → y ≡ z → x ≡ y
one e f = e ∙ sym f

pub version_once : (r t : ℕ) → r ≡ version → t ≡ version → r ≡ t
version_once r t = one

module _ (a marks : List ℕ) (r t : ℕ) (b c m n : List ℕ) where
  pub open_once : OpenCrosses a marks r b m → OpenCrosses a marks t c n → (r ≡ t) × ((b ≡ c) × (m ≡ n))
  open_once =
      both a (open_reasons (state_of a) marks) _ _ _ _ ((b ≡ c) × (m ≡ n)) r t
      (λ k h g. (one h.0 g.0, one h.1 g.1))
      (λ h g. (one h.0 g.0, one h.1 g.1))

-- ---- read and write

read_into_once : {s : State} {bytes : List ℕ} {count : ℕ} {table m n p q : List ℕ} → ReadInto s bytes count table m p → ReadInto s bytes count table n q
    → (m ≡ n) × (p ≡ q)
read_into_once {s} {table = table} h k =
    let e = one_meaning h.means k.means in
    (h.stored ∙ ap (λ (q : CtuSet). table_with s q table) e ∙ sym k.stored, h.encoded ∙ ap encode e ∙ sym k.encoded)

module _ (a bytes : List ℕ) (count : ℕ) (table set : List ℕ) (r t : ℕ) (b c m n p q : List ℕ) where
  pub read_once : ReadCrosses a bytes count table set r b m p → ReadCrosses a bytes count table set t c n q
      → (r ≡ t) × ((b ≡ c) × ((m ≡ n) × (p ≡ q)))
  read_once =
      both a (read_reasons (state_of a) bytes count table) _ _ _ _ ((b ≡ c) × ((m ≡ n) × (p ≡ q))) r t
      (λ k h g. (one h.0 g.0, read_into_once h.1 g.1))
      (λ h g. (one h.0 g.0, (one h.1 g.1, one h.2 g.2)))

module _ (a set out table : List ℕ) (k r t : ℕ) (b c d e f g : List ℕ) (i j : ℕ) where
  -- both are of one set
  wrote_once : (q : CtuSet)
      → Answers a (write_reasons (state_of a) q out table) r
      ((b ≡ numbers_of (state_after (state_of a))) × Wrote (state_of a) q out table i d × (f ≡ table_with (state_of a) q table))
      ((b ≡ a) × (d ≡ out) × (f ≡ table) × (i ≡ k))
      → Answers a (write_reasons (state_of a) q out table) t
      ((c ≡ numbers_of (state_after (state_of a))) × Wrote (state_of a) q out table j e × (g ≡ table_with (state_of a) q table))
      ((c ≡ a) × (e ≡ out) × (g ≡ table) × (j ≡ k))
      → (r ≡ t) × ((b ≡ c) × (d ≡ e) × (f ≡ g) × (i ≡ j))
  wrote_once q =
      both a (write_reasons (state_of a) q out table) _ _ _ _ ((b ≡ c) × (d ≡ e) × (f ≡ g) × (i ≡ j)) r t
      (λ z x y. let w = wrote_unique x.1 y.1 in (one x.0 y.0, w.1, one x.2 y.2, w.0))
      (λ x y. (one x.0 y.0, one x.1 y.1, one x.2 y.2, one x.3 y.3))

  pub write_once : WriteCrosses a set out table k r b d f i → WriteCrosses a set out table k t c e g j
      → (r ≡ t) × ((b ≡ c) × (d ≡ e) × (f ≡ g) × (i ≡ j))
  write_once (q, s, h) (p, u, l) =
      wrote_once p
      (subst
      (λ (o : CtuSet). Answers a (write_reasons (state_of a) o out table) r
      ((b ≡ numbers_of (state_after (state_of a))) × Wrote (state_of a) o out table i d × (f ≡ table_with (state_of a) o table))
      ((b ≡ a) × (d ≡ out) × (f ≡ table) × (i ≡ k)))
      (stands_once s u) h)
      l

-- ---- deliver and filter

module _ (a : List ℕ) (i k : ℕ) (samples : List ℕ) (deblocked : Planes) (marks : List ℕ) (r t : ℕ) (b c : Planes) (m n : List ℕ) where
  pub deliver_once : DeliverCrosses a i k samples deblocked marks r b m → DeliverCrosses a i k samples deblocked marks t c n → (r ≡ t) × ((b ≡ c) × (m ≡ n))
  deliver_once =
      both a (deliver_reasons (state_of a) i k samples deblocked marks) _ _ _ _ ((b ≡ c) × (m ≡ n)) r t
      (λ l x y.
      let may = may_deliver (state_of a) i k samples deblocked marks l in
      (block_unique x.0 y.0 may.block.component may.deblocked_fits, one x.1 y.1))
      (λ x y. (one x.0 y.0, one x.1 y.1))

module _ (a : List ℕ) (i k : ℕ) (deblocked filtered : Planes) (marks table : List ℕ) (r t : ℕ) (b c : Planes) (m n : List ℕ) where
  pub filter_once : FilterCrosses a i k deblocked filtered marks table r b m → FilterCrosses a i k deblocked filtered marks table t c n
      → (r ≡ t) × ((b ≡ c) × (m ≡ n))
  filter_once =
      both a (filter_reasons (state_of a) i k deblocked filtered marks table) _ _ _ _ ((b ≡ c) × (m ≡ n)) r t
      (λ l x y.
      let may = may_filter (state_of a) i k deblocked filtered marks table l in
      (block_unique x.0 y.0 may.block.component may.filtered_fits, one x.1 y.1))
      (λ x y. (one x.0 y.0, one x.1 y.1))

-- ---- finished rows, sizes, and the place of a block

rows_into_once : {s : State} {i : ℕ} {filtered : Planes} {marks m n : List ℕ} → RowsInto s i filtered marks m → RowsInto s i filtered marks n → m ≡ n
rows_into_once {s} {i} {filtered} h k =
    h.numbers
    ∙ ap (λ (n : ℕ). n ∷ length (leading s i n (plane_of filtered i)) ∷ []) (rows_unique h.finished k.finished)
    ∙ sym k.numbers

module _ (a : List ℕ) (r t : ℕ) (m n : List ℕ) where
  pub rows_once : (i : ℕ) (filtered : Planes) (marks finished : List ℕ) → RowsCrosses a i filtered marks finished r m → RowsCrosses a i filtered marks finished t n
      → (r ≡ t) × (m ≡ n)
  rows_once i filtered marks finished = both a (rows_reasons (state_of a) i filtered marks) _ _ _ _ (m ≡ n) r t (λ l h g. rows_into_once h g) one

  pub sizes_once : (sizes : List ℕ) → SizesCross a sizes r m → SizesCross a sizes t n → (r ≡ t) × (m ≡ n)
  sizes_once sizes = both a (description_reasons (state_of a)) _ _ _ _ (m ≡ n) r t (λ l h g. one h g) one

  pub block_once : (i k : ℕ) (block : List ℕ) → BlockCrosses a i k block r m → BlockCrosses a i k block t n → (r ≡ t) × (m ≡ n)
  block_once i k block =
      both a (description_reasons (state_of a) ++ block_reasons (state_of a) i k) _ _ _ _ (m ≡ n) r t (λ l h g. one h g) one
