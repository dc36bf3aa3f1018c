-- Once all sets are in and all blocks of a component delivered, no reason refuses to filter a block of it that is not filtered.
use mathlib.Core.Path.{◌≡◌, refl, sym, subst}
use mathlib.Core.List.{List}
use Prim.Native.Nat.{ℕ, ◌≤◌, ◌<◌}
use Rattle.standard.specs.declared.State.{State}
use Rattle.standard.specs.Picture.{Rules, components, ctu_count, ctb_at}
use Rattle.standard.specs.Table.{offsets_at}
use Rattle.standard.specs.Refusals.{Clear}
use Rattle.standard.specs.Reasons.{Planes, mark_of, filter_reasons}
use Rattle.standard.proofs.Order.{address_all}
use Rattle.standard.proofs.Grid.{ctb_lt, ctb_inside}
use Rattle.standard.proofs.Seeing.{waits_there, scans_there}
use Rattle.standard.proofs.Clearing.{SetIn, Ready, Filterable}
use Rattle.standard.proofs.Granted.{filter_clear}
use Rattle.promises.specs.Demands.{Own}
use Rattle.promises.proofs.Stored.{SetsIn, sound_in}
use Rattle.promises.proofs.Blocks.{Blocks}

module _ {own : Own} {first : Planes} {s : State} {deblocked filtered : Planes} {marks table : List ℕ} (rules : Rules s.picture)
    (v : SetsIn s own.parameters table) (b : Blocks own first s.picture deblocked filtered marks) (all_read : s.next ≡ ctu_count s.picture)
    {i k : ℕ} (il : i < components s.picture) (kl : k < ctu_count s.picture) where
  its_set : SetIn s k
  its_set = let t = address_all s.picture kl in (t.0, subst (λ (n : ℕ). t.0 < n) (sym all_read) t.1, t.2)

  module _ (all : (j : ℕ) → j < ctu_count s.picture → 1 ≤ mark_of s.picture marks i j) where
    is_ready : ¬ (mark_of s.picture marks i k ≡ 2) → Ready s i k marks table
    is_ready new = record {
      low = λ j w. b.marks_low i j il (waits_there s.picture (offsets_at table i k) k j w);
      new = new;
      set = its_set;
      delivered = λ j w. all j (waits_there s.picture (offsets_at table i k) k j w);
    }

    -- what is looked at lies in a delivered block
    is_filterable : Filterable s i k deblocked table
    is_filterable = record {
      sound = sound_in v k its_set;
      low = λ x y scans.
          let g = scans_there rules i (offsets_at table i k) kl scans in
          let m = all (ctb_at s.picture i x y) (ctb_lt rules i g.0 g.1) in
          (b.places i (ctb_at s.picture i x y) x y il (ctb_inside rules i g.0 g.1 refl)).low m;
    }

    pub ready_clear : ¬ (mark_of s.picture marks i k ≡ 2) → Clear (filter_reasons s i k deblocked filtered marks table)
    ready_clear new =
        filter_clear s i k deblocked filtered marks table (record {
          rules = rules;
          deblocked_fits = b.deblocked_fits;
          filtered_fits = b.filtered_fits;
          marks_fit = b.marks_fit;
          table_fits = v.fits;
          state = v.most;
          block = record { component = il; ctb = kl };
          ready = is_ready new;
          filterable = is_filterable;
        })
