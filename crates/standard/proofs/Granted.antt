-- What an accepted call may build on, and what accepts it: each call's reasons taken apart into their parts, and put together from them.
use mathlib.Core.List.{List, ◌++◌}
use mathlib.Core.Logic.Dec
use Prim.Native.Nat.{ℕ, ◌*◌, ◌≤◌}
use lib.ListN.{length}
use Rattle.standard.specs.declared.State.{State}
use Rattle.standard.specs.declared.CtuSet.{CtuSet}
use Rattle.standard.specs.Picture.{Rules}
use Rattle.standard.specs.Refusals.{Reason, Clear}
use Rattle.standard.specs.Reasons.{Planes, PlanesFit, MarksFit, TableFits, UnitIsDue}
use Rattle.standard.specs.Reasons.{call_reasons, due_reasons, block_reasons, count_reasons, bins_reasons, set_reasons, samples_reasons, ready_reasons, stored_reasons, marks_reasons}
use Rattle.standard.specs.Reasons.{read_reasons, write_reasons, deliver_reasons, filter_reasons, rows_reasons}
use Rattle.standard.proofs.Parts.{clear_front, clear_back, clear_both}
use Rattle.standard.proofs.Called.{SoundState, called, called_clear, unit_sound, due_unit, due_clear, Named, named, named_clear}
use Rattle.standard.proofs.Clearing.{counted, counted_clear, Readable, readable, readable_clear, Writable, writable, writable_clear, Deliverable, deliverable, deliverable_clear}
use Rattle.standard.proofs.Clearing.{Ready, ready, ready_clear, Filterable, filterable, filterable_clear, Countable, countable, countable_clear}
use Rattle.standard.proofs.Refusing.{planes_fit?, marks_fit?, table_fits?, all_fit?}

-- ---- where a CTU has to be due

pub record DueCall (s : State) (table : List ℕ) : Type 0 where
  pub rules : Rules s.picture
  pub table_fits : TableFits s.picture table
  pub unit : UnitIsDue s

module _ (s : State) (table : List ℕ) where
  abbrev due_front : List Reason
  due_front = call_reasons s (TableFits s.picture table) ++ due_reasons s

  due_call : Clear due_front → DueCall s table
  due_call c =
      let begun = called s (table_fits? s.picture table) (clear_front (call_reasons s (TableFits s.picture table)) (due_reasons s) c) in
      record {
        rules = begun.rules;
        table_fits = begun.fits;
        unit = due_unit s (clear_back (call_reasons s (TableFits s.picture table)) (due_reasons s) c);
      }

  due_call_clear : DueCall s table → Clear due_front
  due_call_clear d =
      clear_both (call_reasons s (TableFits s.picture table)) (due_reasons s)
      (called_clear s (record { rules = d.rules; fits = d.table_fits; state = unit_sound s d.unit })) (due_clear s d.unit)

module _ (s : State) (bytes : List ℕ) (count : ℕ) (table : List ℕ) where
  pub record MayRead : Type 0 where
    pub due : DueCall s table
    pub held : count ≤ 8 * length bytes
    pub bins : Readable s bytes count table

  abbrev count_front : List Reason
  count_front = due_front s table ++ count_reasons bytes count

  pub may_read : Clear (read_reasons s bytes count table) → MayRead
  may_read c =
      let front = clear_front count_front (bins_reasons s bytes count table) c in
      record {
        due = due_call s table (clear_front (due_front s table) (count_reasons bytes count) front);
        held = counted bytes count (clear_back (due_front s table) (count_reasons bytes count) front);
        bins = readable s (clear_back count_front (bins_reasons s bytes count table) c);
      }

  pub read_clear : MayRead → Clear (read_reasons s bytes count table)
  read_clear m =
      clear_both count_front (bins_reasons s bytes count table)
      (clear_both (due_front s table) (count_reasons bytes count) (due_call_clear s table m.due) (counted_clear bytes count m.held)) (readable_clear s m.bins)

module _ (s : State) (q : CtuSet) (out table : List ℕ) where
  pub record MayWrite : Type 0 where
    pub due : DueCall s table
    pub set : Writable s q out table

  pub may_write : Clear (write_reasons s q out table) → MayWrite
  may_write c = record {
    due = due_call s table (clear_front (due_front s table) (set_reasons s q out table) c);
    set = writable s (clear_back (due_front s table) (set_reasons s q out table) c);
  }

  pub write_clear : MayWrite → Clear (write_reasons s q out table)
  write_clear m = clear_both (due_front s table) (set_reasons s q out table) (due_call_clear s table m.due) (writable_clear s m.set)

-- ---- where a block has to be there

module _ (s : State) (i k : ℕ) (samples : List ℕ) (deblocked : Planes) (marks : List ℕ) where
  pub record MayDeliver : Type 0 where
    pub rules : Rules s.picture
    pub deblocked_fits : PlanesFit s.picture deblocked
    pub marks_fit : MarksFit s.picture marks
    pub state : SoundState s
    pub block : Named s i k
    pub deliverable : Deliverable s i k samples marks

  abbrev deliver_call : List Reason
  deliver_call = call_reasons s (PlanesFit s.picture deblocked × MarksFit s.picture marks)

  pub may_deliver : Clear (deliver_reasons s i k samples deblocked marks) → MayDeliver
  may_deliver c =
      let front = clear_front (deliver_call ++ block_reasons s i k) (samples_reasons s i k samples marks) c in
      let begun = called s (Dec.and (planes_fit? s.picture deblocked) (marks_fit? s.picture marks)) (clear_front deliver_call (block_reasons s i k) front) in
      record {
        rules = begun.rules;
        deblocked_fits = begun.fits.0;
        marks_fit = begun.fits.1;
        state = begun.state;
        block = named s (clear_back deliver_call (block_reasons s i k) front);
        deliverable = deliverable s (clear_back (deliver_call ++ block_reasons s i k) (samples_reasons s i k samples marks) c);
      }

  pub deliver_clear : MayDeliver → Clear (deliver_reasons s i k samples deblocked marks)
  deliver_clear m =
      clear_both (deliver_call ++ block_reasons s i k) (samples_reasons s i k samples marks)
      (clear_both deliver_call (block_reasons s i k)
      (called_clear s (record { rules = m.rules; fits = (m.deblocked_fits, m.marks_fit); state = m.state })) (named_clear s m.block))
      (deliverable_clear s m.deliverable)

module _ (s : State) (i k : ℕ) (deblocked filtered : Planes) (marks table : List ℕ) where
  pub record MayFilter : Type 0 where
    pub rules : Rules s.picture
    pub deblocked_fits : PlanesFit s.picture deblocked
    pub filtered_fits : PlanesFit s.picture filtered
    pub marks_fit : MarksFit s.picture marks
    pub table_fits : TableFits s.picture table
    pub state : SoundState s
    pub block : Named s i k
    pub ready : Ready s i k marks table
    pub filterable : Filterable s i k deblocked table

  abbrev filter_call : List Reason
  filter_call = call_reasons s (PlanesFit s.picture deblocked × PlanesFit s.picture filtered × MarksFit s.picture marks × TableFits s.picture table)

  abbrev filter_named : List Reason
  filter_named = filter_call ++ block_reasons s i k

  abbrev filter_ready : List Reason
  filter_ready = filter_named ++ ready_reasons s i k marks table

  pub may_filter : Clear (filter_reasons s i k deblocked filtered marks table) → MayFilter
  may_filter c =
      let asked = clear_front filter_ready (stored_reasons s i k deblocked table) c in
      let front = clear_front filter_named (ready_reasons s i k marks table) asked in
      let begun = called s (all_fit? s.picture deblocked filtered marks table) (clear_front filter_call (block_reasons s i k) front) in
      record {
        rules = begun.rules;
        deblocked_fits = begun.fits.0;
        filtered_fits = begun.fits.1;
        marks_fit = begun.fits.2;
        table_fits = begun.fits.3;
        state = begun.state;
        block = named s (clear_back filter_call (block_reasons s i k) front);
        ready = ready s (clear_back filter_named (ready_reasons s i k marks table) asked);
        filterable = filterable s (clear_back filter_ready (stored_reasons s i k deblocked table) c);
      }

  pub filter_clear : MayFilter → Clear (filter_reasons s i k deblocked filtered marks table)
  filter_clear m =
      let begun : Clear filter_call = called_clear s (record { rules = m.rules; fits = (m.deblocked_fits, m.filtered_fits, m.marks_fit, m.table_fits); state = m.state }) in
      let front = clear_both filter_call (block_reasons s i k) begun (named_clear s m.block) in
      clear_both filter_ready (stored_reasons s i k deblocked table)
      (clear_both filter_named (ready_reasons s i k marks table) front (ready_clear s m.ready)) (filterable_clear s m.filterable)

-- ---- finished rows

module _ (s : State) (i : ℕ) (filtered : Planes) (marks : List ℕ) where
  pub record MayCount : Type 0 where
    pub rules : Rules s.picture
    pub filtered_fits : PlanesFit s.picture filtered
    pub marks_fit : MarksFit s.picture marks
    pub state : SoundState s
    pub countable : Countable s i marks

  abbrev rows_call : List Reason
  rows_call = call_reasons s (PlanesFit s.picture filtered × MarksFit s.picture marks)

  pub may_count : Clear (rows_reasons s i filtered marks) → MayCount
  may_count c =
      let begun = called s (Dec.and (planes_fit? s.picture filtered) (marks_fit? s.picture marks)) (clear_front rows_call (marks_reasons s i marks) c) in
      record {
        rules = begun.rules;
        filtered_fits = begun.fits.0;
        marks_fit = begun.fits.1;
        state = begun.state;
        countable = countable s (clear_back rows_call (marks_reasons s i marks) c);
      }

  pub rows_clear : MayCount → Clear (rows_reasons s i filtered marks)
  rows_clear m =
      clear_both rows_call (marks_reasons s i marks)
      (called_clear s (record { rules = m.rules; fits = (m.filtered_fits, m.marks_fit); state = m.state })) (countable_clear s m.countable)
