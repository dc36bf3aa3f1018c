-- The contracts let in one answer only: what is taken at a cursor, as the values have a code; and the form of a CTU's bins, as neighbours
-- with unlike sets tell the merges from each other and from the full form.
use mathlib.Core.Path.{◌≡◌, refl, sym, ap, ◌∙◌, subst}
use mathlib.Core.Bool.{Bool, true, false}
use mathlib.Core.List.{List}
use Rattle.std.specs.Prelude.{Option, Some, None, Result, Ok, Err, is_some}
use Prim.Native.Nat.{◌*◌, ◌≤◌}
use mathlib.Core.HLevel.{is_prop→PathP}
use native.Mathlib.Bridge.{le_prop}
use native.Mathlib.Omega.{arith}
use lib.IntN.{pos}
use lib.ListN.{length}
use Rattle.standard.specs.declared.Offsets.TheVariants.{Off, Band}
use Rattle.standard.specs.declared.CtuSet.{CtuSet}
use Rattle.standard.specs.declared.Switches.{Switches}
use Rattle.standard.specs.Sets.{four, all_off}
use Rattle.standard.specs.Bins.{type_idx}
use Rattle.standard.specs.Means.{Means, Early, Remain}
use Rattle.standard.proofs.Codes.{got, impossible, never, Code, Spelled}
use Rattle.standard.proofs.Reader.{one_meaning, meant_not_early, meant_not_remain, early_not_remain}
use Rattle.bins.specs.declared.Cursor.{Cursor}
use Rattle.bins.specs.declared.Form.{Form}
use Rattle.bins.specs.declared.Form.TheVariants.{Left, Up, Full}
use Rattle.bins.specs.declared.BinsError.{BinsError}
use Rattle.bins.specs.declared.BinsError.TheVariants.{TooEarly, BinsRemain}
use Rattle.bins.specs.Takes.{bins_at, Taken, Takes}
use Rattle.bins.specs.Forms.{Says, ReadAs}
use Rattle.bins.proofs.ByReader.{seen, reads}
use Rattle.bins.proofs.Places.{left_over}

-- ---- what is taken at a cursor

same_cursor : (m n : Cursor) → m.bytes ≡ n.bytes → m.at ≡ n.at → m.count ≡ n.count → m ≡ n
same_cursor m n bytes at count i = record {
  bytes = bytes i;
  at = at i;
  count = count i;
  place = is_prop→PathP (λ j. at j ≤ count j) (λ j. le_prop) m.place n.place i;
  room = is_prop→PathP (λ j. count j ≤ 8 * length (bytes j).now) (λ j. le_prop) m.room n.room i;
}

module _ {A : Type 0} {P : A → Type 0} {f : A → List Bool} (code : Code (Spelled P f)) {c : Cursor} where
  same_seen : {r t : Taken A} → Takes P f c r → Takes P f c t → seen r ≡ seen t
  same_seen h k = (reads code h).says ∙ sym (reads code k).says

  pub takes_once : (r t : Taken A) → Takes P f c r → Takes P f c t → r ≡ t
  takes_once (Some (a, m)) (Some (b, n)) h k =
      let e : got a (bins_at m) ≡ got b (bins_at n) = same_seen h k in
      let value : a ≡ b = cc in
      let beyond : bins_at m ≡ bins_at n = cc in
      let count : m.count ≡ n.count = h.spells.2.count ∙ sym k.spells.2.count in
      let at : m.at ≡ n.at = omega (arith, left_over m, left_over n, ap length beyond, count, m.place, n.place) in
      let next = same_cursor m n (h.spells.2.bytes ∙ sym k.spells.2.bytes) at count in
      λ i. Some (value i, next i)
  takes_once (Some (a, m)) None h k = never (sym (same_seen h k))
  takes_once None (Some (b, n)) h k = never (same_seen h k)
  takes_once None None h k = refl

-- ---- the form of a CTU's bins

-- a set that is not all off
abbrev other : CtuSet
other = record { luma = Band 0 (four (pos 0) (pos 0) (pos 0) (pos 0)); cb = Off; cr = Off }

apart : {X : Type 0} → all_off ≡ other → X
apart e = impossible (ap (λ (q : CtuSet). type_idx q.luma) e)

-- a neighbour with this set, where there is one
abbrev set_at : Bool → CtuSet → Option CtuSet
set_at true q = Some q
set_at false q = None

there : (b : Bool) (q : CtuSet) → is_some (set_at b q) ≡ b
there true q = refl
there false q = refl

the_set : (b : Bool) (q : CtuSet) {p : CtuSet} → set_at b q ≡ Some p → p ≡ q
the_set true q e = cc
the_set false q e = impossible cc

module _ (s : Switches) (has_left has_up : Bool) (bins : List Bool) where
  -- with these sets of the left and the upper neighbour
  abbrev With : CtuSet → CtuSet → CtuSet → Type 0
  With p q meant = Means s (set_at has_left p) (set_at has_up q) meant bins

  -- what a form says with the left set all off and the upper one not, and the other way round
  abbrev Told : Result Form BinsError → Type 0
  Told (Ok Left) = With all_off other all_off × With other all_off other
  Told (Ok Up) = With all_off other other × With other all_off all_off
  Told (Ok (Full q)) = With all_off other q × With other all_off q
  Told (Err TooEarly) = Early s (set_at has_left all_off) (set_at has_up other) bins
  Told (Err BinsRemain) = Remain s (set_at has_left all_off) (set_at has_up other) bins

  said_with : (r : Result Form BinsError) → ReadAs s has_left has_up bins r → (p q : CtuSet) → Says s (set_at has_left p) (set_at has_up q) bins r
  said_with r h p q = h (set_at has_left p) (set_at has_up q) (there has_left p) (there has_up q)

  left_with : ReadAs s has_left has_up bins (Ok Left) → (p q : CtuSet) → With p q p
  left_with h p q = let t = said_with (Ok Left) h p q in subst (With p q) (the_set has_left p t.1) t.2

  up_with : ReadAs s has_left has_up bins (Ok Up) → (p q : CtuSet) → With p q q
  up_with h p q = let t = said_with (Ok Up) h p q in subst (With p q) (the_set has_up q t.1) t.2

  told : (r : Result Form BinsError) → ReadAs s has_left has_up bins r → Told r
  told (Ok Left) h = (left_with h all_off other, left_with h other all_off)
  told (Ok Up) h = (up_with h all_off other, up_with h other all_off)
  told (Ok (Full q)) h = (said_with (Ok (Full q)) h all_off other, said_with (Ok (Full q)) h other all_off)
  told (Err TooEarly) h = said_with (Err TooEarly) h all_off other
  told (Err BinsRemain) h = said_with (Err BinsRemain) h all_off other

  one_form : (f g : Form) → Told (Ok f) → Told (Ok g) → f ≡ g
  one_form Left Left d e = refl
  one_form Left Up d e = apart (one_meaning d.0 e.0)
  one_form Left (Full q) d e = apart (one_meaning d.0 e.0 ∙ one_meaning e.1 d.1)
  one_form Up Left d e = apart (one_meaning e.0 d.0)
  one_form Up Up d e = refl
  one_form Up (Full q) d e = apart (one_meaning d.1 e.1 ∙ one_meaning e.0 d.0)
  one_form (Full q) Left d e = apart (one_meaning e.0 d.0 ∙ one_meaning d.1 e.1)
  one_form (Full q) Up d e = apart (one_meaning e.1 d.1 ∙ one_meaning d.0 e.0)
  one_form (Full q) (Full p) d e = ap Full (one_meaning d.0 e.0)

  -- bins of a form mean a set, and so are neither too few nor too many
  meant : (f : Form) → Told (Ok f) → (q : CtuSet) × With all_off other q
  meant Left d = (all_off, d.0)
  meant Up d = (other, d.0)
  meant (Full q) d = (q, d.0)

  one_answer : (r t : Result Form BinsError) → Told r → Told t → r ≡ t
  one_answer (Ok f) (Ok g) d e = ap Ok (one_form f g d e)
  one_answer (Ok f) (Err TooEarly) d e = absurd (meant_not_early (meant f d).1 e)
  one_answer (Ok f) (Err BinsRemain) d e = absurd (meant_not_remain (meant f d).1 e)
  one_answer (Err TooEarly) (Ok g) d e = absurd (meant_not_early (meant g e).1 d)
  one_answer (Err TooEarly) (Err TooEarly) d e = refl
  one_answer (Err TooEarly) (Err BinsRemain) d e = absurd (early_not_remain d e)
  one_answer (Err BinsRemain) (Ok g) d e = absurd (meant_not_remain (meant g e).1 d)
  one_answer (Err BinsRemain) (Err TooEarly) d e = absurd (early_not_remain e d)
  one_answer (Err BinsRemain) (Err BinsRemain) d e = refl

  pub read_form_unique : (r t : Result Form BinsError) → ReadAs s has_left has_up bins r → ReadAs s has_left has_up bins t → r ≡ t
  read_form_unique r t h k = one_answer r t (told r h) (told t k)
