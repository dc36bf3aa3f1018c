-- Nothing is promised for want of a case: for every premise of a demand a small world in which it holds of the stage, computed.
use mathlib.Core.Path.{◌≡◌, refl, ap, subst}
use mathlib.Core.Bool.{Bool, true}
use mathlib.Core.List.{List, [], ◌∷◌, ◌++◌}
use mathlib.Core.Logic.Dec
use mathlib.Core.Logic.{inl, inr}
use Rattle.std.specs.Prelude.{None as none}
use Prim.Native.Nat.{ℕ, suc, ◌*◌, ◌≤◌, ◌<◌}
use native.Mathlib.Omega.{arith}
use lib.IntN.{pos}
use lib.ListN.{length, get_or, replicate}
use Rattle.standard.specs.declared.Picture.{Picture}
use Rattle.standard.specs.declared.Offsets.TheVariants.{Band}
use Rattle.standard.specs.declared.CtuSet.{CtuSet}
use Rattle.standard.specs.Picture.{components, divisors, ctu_count}
use Rattle.standard.specs.Sets.{four, switches_of}
use Rattle.standard.specs.Bins.{bins_of}
use Rattle.standard.specs.Samples.{plane_by}
use Rattle.standard.specs.Table.{entry_size, encode_entry}
use Rattle.standard.specs.Refusals.{First, Clear}
use Rattle.standard.specs.Reasons.{Planes, plane_of, left_set, upper_set, MeansHere, ShortestHere}
use Rattle.standard.proofs.Cases.{mono, colour_of, of_luma, everywhere, case5}
use Rattle.standard.proofs.Codes.{got}
use Rattle.standard.proofs.Depths.{depths, alike}
use Rattle.standard.proofs.Decisions.{differ, Verdict, refusal, clear, number_in, IsRefusal, accepted}
use Rattle.standard.proofs.Judging.{rules?, valid?}
use Rattle.standard.proofs.Reader.{read_ctu, got_is_meant}
use Rattle.standard.proofs.Refusing.{not_there, sound?, unit_due?}
use Rattle.standard.proofs.Spelling.{no_bins_at_all}
use Rattle.standard.proofs.TwoDepths.{in_depths}
use Rattle.promises.specs.World.{World, Call, Open, Read, Write, Deliver, Filter, Rows, refused, set_read, bins_written, rows, Accepted, reasons_of}
use Rattle.promises.specs.Contract.{appended, unchanged}
use Rattle.promises.specs.Demands.{Lengths, Due, Own, Life, Done, after, sets_in, Filters, Delivers}
use Rattle.promises.specs.Ours.{verdict_of, conclude, ours}
use Rattle.promises.proofs.Proved.{demand2}
use Rattle.worlds.proofs.Small.{computing, deciding, holds, fails, all?, filters?, delivers?, happened?, lives, world, edgy, edgy_bytes, edgy_count, plane8, own8, before8, opened8, ready8, calls8, own24, before24, half24, calls24, tall24, lengths8, lengths24, means_edgy}

-- ---- demand 1: a call and a world for each of the fourteen numbers

-- they are refused from number n on, the first reason being that number's, and all is as before
abbrev pub RefusedFrom : ℕ → List (Call × World) → Type 0
RefusedFrom n [] = Unit {0}
RefusedFrom n (t ∷ ts) = First (reasons_of t.0 t.1) n × (ours t.0 t.1 ≡ unchanged t.0 t.1 n) × RefusedFrom (suc n) ts

-- a set that no bins mean, and a room
abbrev pub strange : CtuSet
strange = of_luma (Band 32 (four (pos 0) (pos 0) (pos 0) (pos 0)))

abbrev pub two_bytes : List ℕ
two_bytes = 0 ∷ 0 ∷ []

-- 1 a width of 12; 2 no marks; 3 no CTB 1; 4 to 6 a count of 17, 10 and 15 for 14 bins; 7 the one CTU has its set; 8 a sample of 256;
-- 9 the block is in; 10 the block to the right is not (case 10); 11 the block is filtered; 12 a band position of 32; 13 one byte for 14 bins;
-- 14 a table of bytes that mean nothing
abbrev pub fourteen : List (Call × World)
fourteen =
    (Open, world (mono 12 8) 0 [] [] [] [])
    ∷ (Open, world (mono 8 8) 0 [] [] [] [])
    ∷ (Filter 0 1, ready8)
    ∷ (Read edgy_bytes 17, opened8)
    ∷ (Read edgy_bytes 10, opened8)
    ∷ (Read edgy_bytes 15, opened8)
    ∷ (Read edgy_bytes 14, ready8)
    ∷ (Deliver 0 0 (replicate 64 256), opened8)
    ∷ (Deliver 0 0 plane8, ready8)
    ∷ (Filter 0 0, half24)
    ∷ (Filter 0 0, world (mono 8 8) 1 plane8 plane8 (2 ∷ []) (encode_entry edgy))
    ∷ (Write strange two_bytes, opened8)
    ∷ (Write edgy (0 ∷ []), opened8)
    ∷ (Filter 0 0, world (mono 8 8) 1 plane8 plane8 (1 ∷ []) (replicate entry_size 9))
    ∷ []

refusing : (c : Call) (w : World) (n : ℕ) → IsRefusal (verdict_of c w) → number_in (verdict_of c w) ≡ n → First (reasons_of c w) n × (ours c w ≡ unchanged c w n)
unfolding ours
refusing c w n = go (verdict_of c w)
  where
    go : (v : Verdict (reasons_of c w)) → IsRefusal v → number_in v ≡ n → First (reasons_of c w) n × (conclude c w v ≡ unchanged c w n)
    go (refusal m f) h e = (subst (First (reasons_of c w)) e f, ap (unchanged c w) e)
    go (clear k) h e = absurd h

-- computed
abbrev RefusalsFrom : ℕ → List (Call × World) → Type 0
RefusalsFrom n [] = Unit {0}
RefusalsFrom n (t ∷ ts) = IsRefusal (verdict_of t.0 t.1) × (number_in (verdict_of t.0 t.1) ≡ n) × RefusalsFrom (suc n) ts

refused_from : (n : ℕ) (ts : List (Call × World)) → RefusalsFrom n ts → RefusedFrom n ts
refused_from n [] h = tt
refused_from n (t ∷ ts) h = let r = refusing t.0 t.1 n h.0 h.1 in (r.0, r.1, refused_from (suc n) ts h.2)

pub each_number : RefusedFrom 1 fourteen
unfolding computing
each_number =
    refused_from 1 fourteen
    (tt, refl, (tt, refl, (tt, refl, (tt, refl, (tt, refl, (tt, refl, (tt, refl, (tt, refl, (tt, refl, (tt, refl, (tt, refl, (tt, refl, (tt, refl, (tt, refl, tt))))))))))))))

-- 1 for the depths: a description with a mark lent for each component
abbrev pub described : Picture → World
described p = world p 0 [] [] (replicate (components p) 0) []

abbrev pub Misdescribed : Picture → Type 0
Misdescribed p = First (reasons_of Open (described p)) 1 × (ours Open (described p) ≡ unchanged Open (described p) 1)

-- either is outside 8 to 16, or in monochrome chroma's is another
pub luma_at_17 : Misdescribed (colour_of (depths 17 8) 8 8)
unfolding computing
luma_at_17 = refusing Open (described (colour_of (depths 17 8) 8 8)) 1 tt refl

pub chroma_at_7 : Misdescribed (colour_of (depths 8 7) 8 8)
unfolding computing
chroma_at_7 = refusing Open (described (colour_of (depths 8 7) 8 8)) 1 tt refl

pub two_in_monochrome : Misdescribed (in_depths (depths 10 8) (mono 8 8))
unfolding computing
two_in_monochrome = refusing Open (described (in_depths (depths 10 8) (mono 8 8))) 1 tt refl

-- ---- demand 2: reading

-- no reason holds, and the bins are read as the set that they mean
abbrev pub ReadAs : World → List ℕ → ℕ → CtuSet → Type 0
ReadAs w bytes count q =
    Clear (reasons_of (Read bytes count) w) × MeansHere w.state w.table q (bins_of bytes count)
    × (ours (Read bytes count) w ≡ record { answer = set_read q; out = []; world = appended w q })

-- computed
read_as : (w : World) (bytes : List ℕ) (count : ℕ) (q : CtuSet) → ¬ IsRefusal (verdict_of (Read bytes count) w)
    → read_ctu (switches_of w.state) (left_set w.state w.table) (upper_set w.state w.table) (bins_of bytes count) ≡ got q []
    → ours (Read bytes count) w ≡ record { answer = set_read q; out = []; world = appended w q } → ReadAs w bytes count q
read_as w bytes count q c g e = (
  accepted (verdict_of (Read bytes count) w) c,
  got_is_meant (switches_of w.state) (left_set w.state w.table) (upper_set w.state w.table) (bins_of bytes count) g,
  e,
)

-- a unit is due without neighbours (due8)
pub read_in_full : ReadAs opened8 edgy_bytes edgy_count edgy
unfolding computing
read_in_full = read_as opened8 edgy_bytes edgy_count edgy (λ h. h) refl refl

-- with a left neighbour, and with an upper one: the second CTU of two
abbrev pub beside : World
beside = world (mono 24 8) 1 (replicate 192 7) (replicate 192 1) (0 ∷ 0 ∷ []) (encode_entry edgy ++ replicate entry_size 9)

abbrev pub below : World
below = world (mono 8 24) 1 (replicate 192 7) (replicate 192 1) (0 ∷ 0 ∷ []) (encode_entry edgy ++ replicate entry_size 9)

pub due_beside : Due beside
unfolding computing
due_beside = record {
  rules = holds (rules? (mono 24 8)) tt;
  lengths = record { deblocked = record { y = refl; cb = refl; cr = refl }; filtered = record { y = refl; cb = refl; cr = refl }; marks = refl; table = refl };
  unit = holds (unit_due? beside.state) tt;
  left = λ n. n (holds (sound? (switches_of beside.state) beside.table 0) tt);
  above = λ b. b;
}

pub due_below : Due below
unfolding computing
due_below = record {
  rules = holds (rules? (mono 8 24)) tt;
  lengths = record { deblocked = record { y = refl; cb = refl; cr = refl }; filtered = record { y = refl; cb = refl; cr = refl }; marks = refl; table = refl };
  unit = holds (unit_due? below.state) tt;
  left = λ b. b;
  above = λ n. n (holds (sound? (switches_of below.state) below.table 0) tt);
}

pub read_by_merging_left : ReadAs beside (128 ∷ []) 1 edgy
unfolding computing
read_by_merging_left = read_as beside (128 ∷ []) 1 edgy (λ h. h) refl refl

pub read_by_merging_up : ReadAs below (128 ∷ []) 1 edgy
unfolding computing
read_by_merging_up = read_as below (128 ∷ []) 1 edgy (λ h. h) refl refl

-- with a left neighbour outside the rules: no unit is due with sound buffers, and yet bins in the full form are read, after the bin of the
-- merge that is not taken; those of the merge are refused 14
abbrev pub beside_strange : World
beside_strange = world (mono 24 8) 1 (replicate 192 7) (replicate 192 1) (0 ∷ 0 ∷ []) (replicate (2 * entry_size) 9)

pub strange_neighbour : ¬ Due beside_strange
unfolding computing
strange_neighbour d = d.left (fails (sound? (switches_of beside_strange.state) beside_strange.table 0) tt)

pub read_beside_strange : ReadAs beside_strange (122 ∷ 176 ∷ []) 15 edgy
unfolding computing
read_beside_strange = read_as beside_strange (122 ∷ 176 ∷ []) 15 edgy (λ h. h) refl refl

-- which is promised
pub promised_beside_strange : (q : CtuSet) × MeansHere beside_strange.state beside_strange.table q (bins_of (122 ∷ 176 ∷ []) 15)
    × (ours (Read (122 ∷ 176 ∷ []) 15) beside_strange ≡ record { answer = set_read q; out = []; world = appended beside_strange q })
promised_beside_strange = demand2.reads (122 ∷ 176 ∷ []) 15 beside_strange read_beside_strange.0

pub merge_with_strange : First (reasons_of (Read (128 ∷ []) 1) beside_strange) 14
    × (ours (Read (128 ∷ []) 1) beside_strange ≡ unchanged (Read (128 ∷ []) 1) beside_strange 14)
unfolding computing
merge_with_strange = refusing (Read (128 ∷ []) 1) beside_strange 14 tt refl

-- ---- writing

-- in full, the byte beyond unchanged; and by a merge
pub written_in_full : ours (Write edgy (1 ∷ 2 ∷ 3 ∷ [])) opened8 ≡ record { answer = bins_written 14; out = 245 ∷ 96 ∷ 3 ∷ []; world = appended opened8 edgy }
unfolding computing
written_in_full = refl

pub written_by_merging : ours (Write edgy (1 ∷ 2 ∷ [])) beside ≡ record { answer = bins_written 1; out = 128 ∷ 2 ∷ []; world = appended beside edgy }
unfolding computing
written_by_merging = refl

-- room enough, for a set that has bins
pub room_enough : (bins : List Bool) → ShortestHere opened8.state opened8.table edgy bins → length bins ≤ 8 * length two_bytes
unfolding computing
room_enough bins s = let h : length bins ≤ 14 = s.least (bins_of edgy_bytes edgy_count) means_edgy in omega arith

-- and for one that no bins mean, which is refused 12 while a unit is due (due8)
no_bins_mean_it : (bins : List Bool) → ¬ MeansHere opened8.state opened8.table strange bins
unfolding computing
no_bins_mean_it =
    no_bins_at_all (switches_of opened8.state) none none strange refl (λ e. differ (not_there e)) (λ e. differ (not_there e)) (fails (valid? (switches_of opened8.state) strange) tt)

pub refused_with_room : ((bins : List Bool) → ShortestHere opened8.state opened8.table strange bins → length bins ≤ 8 * length two_bytes)
    × ((ours (Write strange two_bytes) opened8).answer ≡ refused 12)
unfolding computing
refused_with_room = (λ bins s. absurd (no_bins_mean_it bins s.mean), refl)

-- ---- filtering, and finished rows

pub filter_accepted : Accepted (ours (Filter 0 0) ready8).answer
unfolding computing
filter_accepted = tt

-- the first of two CTB rows
pub rows_finished : (ours (Rows 0) tall24).answer ≡ rows 16 (replicate 128 1)
unfolding computing
rows_finished = refl

-- ---- demand 3

-- a block is filtered, at the second ask: the samples are those of case 7
pub one_life : Life ours own8 before8 calls8 × Done ours before8 calls8 (Filters 0 0)
unfolding deciding
one_life = (lives lengths8 tt tt, inr (inr (inr (inl ((refl, refl), tt)))))

pub one_output : (after ours before8 calls8).filtered.y ≡ plane_by 8 8 (λ x y. get_or (5 ∷ 5 ∷ 4 ∷ 6 ∷ 5 ∷ 5 ∷ 5 ∷ 4 ∷ []) x 0)
unfolding deciding
one_output = refl

-- all blocks are filtered, the first at its second ask
pub whole_life : Life ours own24 before24 calls24 × ((k : ℕ) → k < ctu_count (mono 24 8) → Done ours before24 calls24 (Filters 0 k))
unfolding deciding
whole_life = (lives lengths24 tt tt, holds (all? 2 (λ k. happened? ours (filters? 0 k) calls24 (ours Open before24).world)) tt)

pub whole_output : (after ours before24 calls24).filtered.y ≡ plane_by 24 8 (λ x y. get_or (replicate 15 4 ++ (3 ∷ 4 ∷ replicate 7 3)) x 0)
unfolding deciding
whole_output = refl

-- all sets and blocks are in, and no block is filtered: one was asked for too early
abbrev pub calls_in : List Call
calls_in =
    Deliver 0 1 (replicate 64 3)
    ∷ Filter 0 1
    ∷ Read edgy_bytes edgy_count
    ∷ Read (128 ∷ []) 1
    ∷ Filter 0 1
    ∷ Deliver 0 0 (replicate 128 4)
    ∷ []

pub ready_life : Life ours own24 before24 calls_in × (sets_in ours calls_in (ours Open before24).world ≡ ctu_count (mono 24 8))
    × ((i k : ℕ) → i < components (mono 24 8) → k < ctu_count (mono 24 8) → Done ours before24 calls_in (Delivers i k))
    × ((k : ℕ) → k < ctu_count (mono 24 8) → ¬ Done ours before24 calls_in (Filters 0 k))
unfolding deciding
ready_life = (
  lives lengths24 tt tt,
  refl,
  λ i k il kl. holds (all? 1 (λ i. all? 2 (λ k. happened? ours (delivers? i k) calls_in (ours Open before24).world))) tt i il k kl,
  holds (all? 2 (λ k. Dec.not (happened? ours (filters? 0 k) calls_in (ours Open before24).world))) tt,
)

-- one block is filtered, and the other is not
abbrev pub calls_half : List Call
calls_half = calls_in ++ (Filter 0 1 ∷ Rows 0 ∷ [])

pub half_life : Life ours own24 before24 calls_half × Done ours before24 calls_half (Filters 0 1) × (¬ Done ours before24 calls_half (Filters 0 0))
unfolding deciding
half_life = (
  lives lengths24 tt tt,
  holds (happened? ours (filters? 0 1) calls_half (ours Open before24).world) tt,
  fails (happened? ours (filters? 0 0) calls_half (ours Open before24).world) tt,
)

pub half_output : (after ours before24 calls_half).filtered.y ≡ plane_by 24 8 (λ x y. get_or (replicate 16 1 ++ (4 ∷ replicate 7 3)) x 0)
unfolding deciding
half_output = refl

-- ---- the same in 4:2:0: 8x8, a component of 64 samples and two of 16, the set by a write

abbrev pub colour : Picture
colour = record { width = 8; height = 8; ctb = 16; format = 1; depth = alike 8; luma = true; chroma = true }

abbrev pub colourful : CtuSet
colourful = record { luma = edgy.luma; cb = case5; cr = Band 31 (four (pos 7) (pos 0) (pos 0) (pos 0)) }

abbrev pub colours : List ℕ → List ℕ → List ℕ → Planes
colours y cb cr = record { y = y; cb = cb; cr = cr }

abbrev pub own_colour : Own
own_colour = record { parameters = everywhere colourful; planes = plane_of (colours plane8 (replicate 16 8) (replicate 16 250)) }

abbrev pub before_colour : World
before_colour = record {
  state = record { picture = colour; next = 7 };
  deblocked = colours (replicate 64 7) (replicate 16 7) (replicate 16 7);
  filtered = colours (replicate 64 1) (replicate 16 1) (replicate 16 1);
  marks = 9 ∷ 9 ∷ 9 ∷ [];
  table = replicate entry_size 9;
}

abbrev pub calls_colour : List Call
calls_colour =
    Deliver 2 0 (replicate 16 250)
    ∷ Filter 2 0
    ∷ Write colourful (replicate 8 0)
    ∷ Filter 2 0
    ∷ Deliver 0 0 plane8
    ∷ Deliver 1 0 (replicate 16 8)
    ∷ Rows 1
    ∷ Filter 1 0
    ∷ Filter 0 0
    ∷ []

lengths_colour : Lengths before_colour
unfolding divisors
lengths_colour = record { deblocked = record { y = refl; cb = refl; cr = refl }; filtered = record { y = refl; cb = refl; cr = refl }; marks = refl; table = refl }

pub colour_life : Life ours own_colour before_colour calls_colour
    × ((i k : ℕ) → i < components colour → k < ctu_count colour → Done ours before_colour calls_colour (Filters i k))
unfolding deciding
colour_life = (
  lives lengths_colour tt tt,
  λ i k il kl. holds (all? 3 (λ i. all? 1 (λ k. happened? ours (filters? i k) calls_colour (ours Open before_colour).world))) tt i il k kl,
)

-- case 7's rows, case 6's 9 and case 8's 255
pub colour_output : (after ours before_colour calls_colour).filtered
    ≡ colours (plane_by 8 8 (λ x y. get_or (5 ∷ 5 ∷ 4 ∷ 6 ∷ 5 ∷ 5 ∷ 5 ∷ 4 ∷ []) x 0)) (replicate 16 9) (replicate 16 255)
unfolding deciding
colour_output = refl
