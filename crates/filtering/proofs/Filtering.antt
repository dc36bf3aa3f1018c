-- The set that a block is filtered with, what the filter of the block needs, and the plane that it writes.
use mathlib.Core.Bool.{Bool, true, false}
use mathlib.Core.List.{List}
use mathlib.Core.Path.{◌≡◌, sym, ap, ◌∙◌, subst}
use Prim.Native.Nat.{ℕ, zero, suc, ◌<◌}
use native.Mathlib.Omega.{arith}
use lib.ListN.{length}
use Rattle.standard.specs.declared.Rectangle.{Rectangle}
use Rattle.standard.specs.declared.State.{State}
use Rattle.standard.specs.declared.Offsets.{Offsets}
use Rattle.standard.specs.declared.Offsets.TheVariants.{Off, Band, Edge}
use Rattle.standard.specs.declared.CtuSet.{CtuSet}
use Rattle.standard.specs.declared.Switches.{Switches}
use Rattle.standard.specs.Picture.{plane_width, plane_height, rectangle}
use Rattle.standard.specs.Sets.{most, switches_in, Fits, Ruled, Valid, component_of}
use Rattle.standard.specs.Samples.{layout_of, Parameters, Context, context_of, sample}
use Rattle.standard.specs.Refusals.{Clear}
use Rattle.standard.specs.Table.{Sound, parameters_in, switches_at, offsets_at}
use Rattle.standard.specs.Reasons.{Planes, plane_of, SetOutsideTheRules, filter_reasons}
use Rattle.standard.specs.Calls.{Written, Filtered}
use Rattle.standard.proofs.Onward.{switches_at_lem}
use Rattle.standard.proofs.Divisors.{plane_width_lem, plane_height_lem}
use Rattle.standard.proofs.Depths.{depth_in_range, shift_at_most_6}
use Rattle.standard.proofs.Grid.{ends}
use Rattle.standard.proofs.Counting.{component_within}
use Rattle.geometry.specs.declared.block.Block.{Block}
use Rattle.samples.specs.declared.Around.{Around}
use Rattle.samples.specs.Around.{Agrees, picture_around}
use Rattle.samples.specs.Blocks.{Legal, Ready}
use Rattle.samples.proofs.Open.{agrees_reaches}
use Rattle.samples.proofs.Picture.{component_agrees}
use Rattle.sets.specs.Entries.{Holds}
use Rattle.sets.proofs.Finding.{sound_of, found_stored}
use Rattle.standard.proofs.Granted.{MayFilter, may_filter}
use Rattle.standard.proofs.Seeing.{scans_itself}
use Rattle.standard.proofs.Three.{components_most, only_two, plane_long, put, block_written}
use Rattle.lent.specs.Lengths.{Names}
use Rattle.filtering.specs.Filtering.{Chosen, Takes, Sampled}
use Rattle.lent.specs.States.{state_at}

-- ---- the set

fits_legal : (m : ℕ) (set : Offsets) → Fits m set → Legal set
fits_legal m Off f = tt
fits_legal m (Band position offsets) f = f.1
fits_legal m (Edge class offsets) f = f.1

off_legal : (set : Offsets) → set ≡ Off → Legal set
off_legal set e = subst Legal (sym e) tt

ruled_legal : (on : Bool) (set : Offsets) (A B : Type 0) → (A → Legal set) → (B → Legal set) → Ruled on A B → Legal set
ruled_legal true set A B f g r = f r
ruled_legal false set A B f g r = g r

valid_legal : (s : Switches) (q : CtuSet) (i : ℕ) → Valid s q → Legal (component_of q i)
valid_legal s q zero v = ruled_legal s.luma q.luma _ _ (fits_legal (most s 0) q.luma) (off_legal q.luma) v.luma
valid_legal s q (suc zero) v = ruled_legal s.chroma q.cb _ _ (λ f. fits_legal (most s 1) q.cb f.0) (λ e. off_legal q.cb e.0) v.chroma
valid_legal s q (suc (suc i)) v = ruled_legal s.chroma q.cr _ _ (λ f. fits_legal (most s 2) q.cr f.1) (λ e. off_legal q.cr e.1) v.chroma

-- what is found in the entry of the block's CTU, by what its own syntax depended on
module _ (b : Block) (table : List ℕ) {w : Switches} (is : w ≡ switches_in b.of.picture) where
  own_switches : w ≡ switches_at b.of.picture table b.ctb
  own_switches = is ∙ sym (switches_at_lem b.of.picture table b.ctb)

  pub none_found : ¬ Sound w table b.ctb → SetOutsideTheRules (state_at b.of 0) table b.ctb
  none_found = subst (λ (w : Switches). ¬ Sound w table b.ctb) own_switches

  module _ {q : CtuSet} (h : Holds w table b.ctb q) where
    pub set_sound : ¬ SetOutsideTheRules (state_at b.of 0) table b.ctb
    set_sound n = n (subst (λ (w : Switches). Sound w table b.ctb) own_switches (sound_of h))

    pub set_chosen : {set : Offsets} → set ≡ component_of q b.component → Chosen b.component b.ctb table set
    set_chosen e = record {
      is = e ∙ ap (λ (q : CtuSet). component_of q b.component) (sym (found_stored h));
      legal = subst Legal (sym e) (valid_legal w q b.component h.rules);
    }

-- ---- the block

module _ (b : Block) (ps : Parameters) where
  abbrev context : Context
  context = context_of b.of.picture ps b.component

  abbrev own : Rectangle
  own = rectangle b.of.picture b.component b.ctb

  pub block_answers : Agrees context own (picture_around (layout_of b.of.picture b.component) own)
  unfolding layout_of
  block_answers =
      let e = ends b.of.rules b.component b.ctb_in in
      component_agrees b.of.picture ps b.component own e.right e.bottom

  pub block_ready : {set : Offsets} {o : Around} {table plane out : List ℕ} → Takes b set table plane out → Agrees context own o → Ready (layout_of b.of.picture b.component) set o own plane out
  unfolding layout_of
  block_ready t agrees =
      let i = b.component in
      let rules = b.of.rules in
      let e = ends rules i b.ctb_in in
      let d = depth_in_range rules i in
      record {
        lent = record {
          wide = (plane_width_lem rules i).most;
          high = (plane_height_lem rules i).most;
          columns = omega (arith, e.some_columns);
          right = e.right;
          rows = omega (arith, e.some_rows);
          bottom = e.bottom;
          deblocked = t.deblocked;
          filtered = t.filtered;
        };
        some_columns = e.some_columns;
        some_rows = e.some_rows;
        least = d.0;
        most = d.1;
        shift = shift_at_most_6 rules i;
        legal = t.legal;
        deep = t.deep;
        reaches = agrees_reaches (layout_of b.of.picture i) (component_within b.of.picture ps i) agrees;
      }

-- ---- an accepted call

-- of the block that it names and the set that it chooses
module _ {s : State} {i k : ℕ} (l o : Planes) (marks table : List ℕ) {b : Block} {set : Offsets} (n : Names s i k b) (h : Chosen i k table set) (c : Clear (filter_reasons s i k l o marks table)) where
  ok : MayFilter s i k l o marks table
  ok = may_filter s i k l o marks table c

  pub few : i < 3
  few = let a = ok.block.component in omega (arith, a, components_most s.picture)

  -- the third arm of a match on the component
  pub other : ¬ (i ≡ 0) → ¬ (i ≡ 1) → i ≡ 2
  other = only_two s.picture ok.block.component

  -- plane j is the component's
  module _ {plane : List ℕ} (e : plane ≡ plane_of l i) (j : ℕ) (own : i ≡ j) where
    pub takes : Takes b set table plane (plane_of o j)
    takes = record {
      legal = h.legal;
      table_fits = rw n.picture ok.table_fits;
      deblocked = rw (n.picture, n.component, e) (plane_long i ok.deblocked_fits ok.block.component);
      filtered = rw (n.picture, n.component) (ap (λ (m : ℕ). length (plane_of o m)) (sym own) ∙ plane_long i ok.filtered_fits ok.block.component);
      deep = rw (n.picture, n.component, n.ctb, e) (λ x y inside. ok.filterable.low x y (scans_itself ok.rules i (offsets_at table i k) ok.block.ctb inside));
    }

    pub own_filtered : {a : List ℕ} → j < 3 → Sampled b set table plane (plane_of o j) a → Filtered s i k table l o (put o j a)
    own_filtered {a} m w = block_written o j own m (subst As h.is (rw (← e, ← n.picture, ← n.component, ← n.ctb) w))
      where
        As : Offsets → Type 0
        As set =
            Written (plane_width s.picture i) (plane_height s.picture i) (rectangle s.picture i k) (sample (layout_of s.picture i) (context_of s.picture (parameters_in table) i) set (plane_of l i)) (plane_of o j) a
