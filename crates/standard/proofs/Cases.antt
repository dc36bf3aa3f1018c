-- Document 01's ten cases, and some beyond them, as one table of numbered rows under one statement, that every row holds: proved of the
-- definitions by computation. What is read is stated of `Means` and of the reader that agrees with it, what is refused of the call's reasons.
use mathlib.Core.Path.{◌≡◌, refl, subst}
use mathlib.Core.Bool.{Bool, true, false}
use mathlib.Core.List.{List, [], ◌∷◌, ◌++◌}
use Prim.Native.Nat.{ℕ}
use lib.IntN.{pos, negsuc}
use lib.ListN.{replicate}
use Rattle.standard.specs.declared.BitDepths.{BitDepths}
use Rattle.standard.specs.declared.Picture.{Picture}
use Rattle.standard.specs.declared.State.{State}
use Rattle.standard.specs.declared.Offsets.{Offsets}
use Rattle.standard.specs.declared.Offsets.TheVariants.{Off, Band, Edge}
use Rattle.standard.specs.declared.CtuSet.{CtuSet}
use Rattle.standard.specs.Sets.{four, largest, switches_of, all_off}
use Rattle.standard.specs.Bins.{truncated, bins_of}
use Rattle.standard.specs.Samples.{Parameters, filtered_plane}
use Rattle.standard.specs.Table.{entry_size, encode_entry}
use Rattle.standard.specs.Refusals.{Reason, First, Clear}
use Rattle.standard.specs.Reasons.{Planes, left_set, upper_set, MeansHere, read_reasons, filter_reasons}
use Rattle.standard.proofs.Codes.{got}
use Rattle.standard.proofs.Depths.{depths, alike}
use Rattle.standard.proofs.Reader.{read_ctu, got_is_meant}
use Rattle.standard.proofs.Decisions.{Verdict, number_in, IsRefusal, refused_with, accepted}
use Rattle.standard.proofs.Computing.{definitions}
use Rattle.standard.proofs.Refusing.{read_verdict, filter_verdict}

-- monochrome, CTB size 16, luma on, of a depth; and of depth 8
abbrev pub mono_of : ℕ → ℕ → ℕ → Picture
mono_of depth w h = record { width = w; height = h; ctb = 16; format = 0; depth = alike depth; luma = true; chroma = false }

abbrev pub mono : ℕ → ℕ → Picture
mono w h = mono_of 8 w h

-- 4:4:4, CTB size 16, both switches on, of two depths
abbrev pub colour_of : BitDepths → ℕ → ℕ → Picture
colour_of d w h = record { width = w; height = h; ctb = 16; format = 3; depth = d; luma = true; chroma = true }

-- the CTU of that number is due
abbrev pub due : Picture → ℕ → State
due p n = record { picture = p; next = n }

abbrev pub of_luma : Offsets → CtuSet
of_luma c = record { luma = c; cb = Off; cr = Off }

-- of every component
abbrev pub of_each : Offsets → CtuSet
of_each c = record { luma = c; cb = c; cr = c }

-- the bins are accepted, and read as the set that they mean
pub record Reads (s : State) (table bytes : List ℕ) (count : ℕ) (q : CtuSet) : Type 0 where
  pub clear : Clear (read_reasons s bytes count table)
  pub means : MeansHere s table q (bins_of bytes count)
  pub read : read_ctu (switches_of s) (left_set s table) (upper_set s table) (bins_of bytes count) ≡ got q []

-- the bins are refused
abbrev pub Refuses : State → List ℕ → List ℕ → ℕ → ℕ → Type 0
Refuses s table bytes count n = First (read_reasons s bytes count table) n

-- one set for every CTU
abbrev pub everywhere : CtuSet → Parameters
everywhere q = record { sets = λ k. q }

-- ---- a case

pub data Case : Type 0 where
  -- at a depth a magnitude has these bins
  magnitude : ℕ → ℕ → List Bool → Case
  -- while a CTU is due, with a table, the first bins of some bytes, so many of them, are read as a set; or are refused with a number
  reads : State → List ℕ → List ℕ → ℕ → CtuSet → Case
  refuses : State → List ℕ → List ℕ → ℕ → ℕ → Case
  -- by a set, the plane of a component becomes another
  becomes : Picture → CtuSet → ℕ → List ℕ → List ℕ → Case
  -- filtering CTB k of luma is refused with a number, of two planes, marks and a table
  waits : State → ℕ → Planes → List ℕ → List ℕ → ℕ → Case

abbrev pub Holds : Case → Type 0
Holds (magnitude depth v bins) = truncated (largest depth) v ≡ bins
Holds (reads s table bytes count q) = Reads s table bytes count q
Holds (refuses s table bytes count n) = Refuses s table bytes count n
Holds (becomes p q i before after) = filtered_plane p (everywhere q) i before ≡ after
Holds (waits s k planes marks table n) = First (filter_reasons s 0 k planes planes marks table) n

-- ---- the table

-- CTU 0 of a picture of one, at depth 8, and a table with nothing in it
abbrev pub one : State
one = due (mono 16 16) 0

abbrev pub empty : List ℕ
empty = replicate entry_size 0

abbrev pub case5 : Offsets
case5 = Band 30 (four (pos 0) (negsuc 2) (pos 0) (pos 1))

-- two sets to tell apart
abbrev pub A : CtuSet
A = of_luma (Band 3 (four (pos 1) (pos 2) (negsuc 2) (pos 0)))

abbrev pub B : CtuSet
B = of_luma (Edge 1 (four (pos 1) (pos 0) (pos 0) (negsuc 0)))

-- the offsets of case 7, in any class
abbrev pub edges : ℕ → Offsets
edges class = Edge class (four (pos 2) (pos 1) (negsuc 0) (negsuc 1))

-- a block, row after row, that each class changes otherwise, and that no other two steps of one sample change as the class does
abbrev pub block : List ℕ
block = 7 ∷ 7 ∷ 9 ∷ 6 ∷ 3 ∷ 7 ∷ 7 ∷ 4 ∷ 7 ∷ 3 ∷ 5 ∷ 5 ∷ []

-- bins for luma at 10 and chroma at 8 that readers with one depth read otherwise, and what one with 10 makes of them; bins that the latter refuses
abbrev pub uneven : List ℕ
uneven = 199 ∷ 251 ∷ 223 ∷ 194 ∷ 0 ∷ []

abbrev pub misread : CtuSet
misread = record {
  luma = Edge 3 (four (pos 0) (pos 0) (pos 0) (negsuc 7));
  cb = Edge 1 (four (pos 0) (pos 7) (pos 0) (pos 0));
  cr = Edge 1 (four (pos 0) (pos 0) (pos 0) (pos 0));
}

abbrev pub lost : List ℕ
lost = 96 ∷ 15 ∷ 224 ∷ []

-- the last band, which goes by the depth
abbrev pub last : CtuSet
last = of_each (Band 31 (four (pos 7) (pos 0) (pos 0) (pos 0)))

-- the number of a case, and a row of it
abbrev pub table : List (ℕ × Case)
table =
    -- 1. Magnitudes 0, 3, 7: "0", "1110", "1111111"
    (1, magnitude 8 0 (false ∷ []))
    ∷ (1, magnitude 8 3 (true ∷ true ∷ true ∷ false ∷ []))
    ∷ (1, magnitude 8 7 (true ∷ true ∷ true ∷ true ∷ true ∷ true ∷ true ∷ []))
    -- 2. Bin "0": off
    ∷ (2, reads one empty (0 ∷ []) 1 all_off)
    -- 3. E3 40, count 11: edge, class 2, offsets 1, 0, 0, -2. E3 5F with count 11 reads the same
    ∷ (3, reads one empty (227 ∷ 64 ∷ []) 11 (of_luma (Edge 2 (four (pos 1) (pos 0) (pos 0) (negsuc 1)))))
    ∷ (3, reads one empty (227 ∷ 95 ∷ []) 11 (of_luma (Edge 2 (four (pos 1) (pos 0) (pos 0) (negsuc 1)))))
    -- 4. E3 40 with count 10: refused 5. Count 12: refused 6. Count 17: refused 4
    ∷ (4, refuses one empty (227 ∷ 64 ∷ []) 10 5)
    ∷ (4, refuses one empty (227 ∷ 64 ∷ []) 12 6)
    ∷ (4, refuses one empty (227 ∷ 64 ∷ []) 17 4)
    -- 5. 9C AF 00, count 17: band, position 30, offsets 0, -3, 0, 1
    ∷ (5, reads one empty (156 ∷ 175 ∷ 0 ∷ []) 17 (of_luma case5))
    -- 6. With case 5: 240, 248, 7, 8, 16 become 240, 245, 7, 9, 16
    ∷ (6, becomes (mono 5 1) (of_luma case5) 0 (240 ∷ 248 ∷ 7 ∷ 8 ∷ 16 ∷ []) (240 ∷ 245 ∷ 7 ∷ 9 ∷ 16 ∷ []))
    -- 7. Row 5 3 5 5 6 6 4 4, class 0, offsets 2, 1, -1, -2: 5 5 4 6 5 5 5 4
    ∷ (7, becomes (mono 8 1) (of_luma (edges 0)) 0 (5 ∷ 3 ∷ 5 ∷ 5 ∷ 6 ∷ 6 ∷ 4 ∷ 4 ∷ []) (5 ∷ 5 ∷ 4 ∷ 6 ∷ 5 ∷ 5 ∷ 5 ∷ 4 ∷ []))
    -- 8. Band 31, offset 7: 250 becomes 255. Band 0, offset -7: 2 becomes 0
    ∷ (8, becomes (mono 1 1) (of_luma (Band 31 (four (pos 7) (pos 0) (pos 0) (pos 0)))) 0 (250 ∷ []) (255 ∷ []))
    ∷ (8, becomes (mono 1 1) (of_luma (Band 0 (four (negsuc 6) (pos 0) (pos 0) (pos 0)))) 0 (2 ∷ []) (0 ∷ []))
    -- 9. CTU with a left neighbour: "1" copies it. With both neighbours: "01" copies the upper
    ∷ (9, reads (due (mono 32 16) 1) (encode_entry A ++ encode_entry all_off) (128 ∷ []) 1 A)
    ∷ (9, reads (due (mono 32 32) 3) (encode_entry all_off ++ (encode_entry A ++ (encode_entry B ++ encode_entry all_off))) (64 ∷ []) 2 A)
    -- 10. 32x16, CTB size 16, both sets in, CTB 0 delivered, CTB 1 not: filtering CTB 0 is refused 10
    ∷ (10, waits (due (mono 32 16) 2) 0 (record { y = replicate 512 0; cb = []; cr = [] }) (1 ∷ 0 ∷ []) (encode_entry all_off ++ encode_entry all_off) 10)
    -- BEYOND DOCUMENT 01'S TEN, by its formulas
    -- 11. The block 7 7 9 6, 3 7 7 4, 7 3 5 5 with case 7's offsets in class 0. Rows 0 and 2: 7 is below 9 alone, 9 above 7 and 6; 3 below
    -- 7 and 5, 5 above 3 alone. Row 1: 7 is above 3 alone, and above 4 alone
    ∷ (11, becomes (mono 4 3) (of_luma (edges 0)) 0 block (7 ∷ 8 ∷ 7 ∷ 6 ∷ 3 ∷ 6 ∷ 6 ∷ 4 ∷ 7 ∷ 5 ∷ 4 ∷ 5 ∷ []))
    -- 12. Class 1: of row 1, 3 is below 7 and 7, 7 above 3 alone, 7 below 9 and above 5, 4 below 6 and 5
    ∷ (12, becomes (mono 4 3) (of_luma (edges 1)) 0 block (7 ∷ 7 ∷ 9 ∷ 6 ∷ 5 ∷ 6 ∷ 7 ∷ 6 ∷ 7 ∷ 3 ∷ 5 ∷ 5 ∷ []))
    -- 13. Class 2, upper left and lower right: 7 is above 5 alone, and so is the next 7
    ∷ (13, becomes (mono 4 3) (of_luma (edges 2)) 0 block (7 ∷ 7 ∷ 9 ∷ 6 ∷ 3 ∷ 6 ∷ 6 ∷ 4 ∷ 7 ∷ 3 ∷ 5 ∷ 5 ∷ []))
    -- 14. Class 3, upper right and lower left: 7 is below 9 alone, and the next 7 above 6 and 3
    ∷ (14, becomes (mono 4 3) (of_luma (edges 3)) 0 block (7 ∷ 7 ∷ 9 ∷ 6 ∷ 3 ∷ 8 ∷ 5 ∷ 4 ∷ 7 ∷ 3 ∷ 5 ∷ 5 ∷ []))
    -- 15. Depth 10, where bands are 32 wide and offsets as coded: band 3 begins at 96. 95, 96, 127, 128 become 95, 127, 158, 97
    ∷ (15, becomes (mono_of 10 4 1) (of_luma (Band 3 (four (pos 31) (negsuc 30) (pos 0) (pos 0)))) 0 (95 ∷ 96 ∷ 127 ∷ 128 ∷ []) (95 ∷ 127 ∷ 158 ∷ 97 ∷ []))
    -- 16. Depth 12, where bands are 128 wide and offsets act times 4: 1, -2, 3, -4 from band 5 on, which begins at 640, as 4, -8, 12, -16
    ∷ (16, becomes (mono_of 12 10 1) (of_luma (Band 5 (four (pos 1) (negsuc 1) (pos 3) (negsuc 3)))) 0 (639 ∷ 640 ∷ 767 ∷ 768 ∷ 895 ∷ 896 ∷ 1023 ∷ 1024 ∷ 1151 ∷ 1152 ∷ []) (639 ∷ 644 ∷ 771 ∷ 760 ∷ 887 ∷ 908 ∷ 1035 ∷ 1008 ∷ 1135 ∷ 1152 ∷ []))
    -- 17. Depth 12: case 7's row a hundredfold, and its offsets as 8, 4, -4, -8
    ∷ (17, becomes (mono_of 12 8 1) (of_luma (edges 0)) 0 (500 ∷ 300 ∷ 500 ∷ 500 ∷ 600 ∷ 600 ∷ 400 ∷ 400 ∷ []) (500 ∷ 308 ∷ 496 ∷ 504 ∷ 596 ∷ 596 ∷ 404 ∷ 400 ∷ []))
    -- 18. Depth 16, where bands are 2048 wide and offsets act times 64. Band 31, offset 31, as 1984: 65000 becomes 65535. Band 0, offset -31:
    -- 1000 becomes 0. Band 3, which begins at 6144, with offsets 1 and -2: 6143, 6144, 8191, 8192 become 6143, 6208, 8255, 8064
    ∷ (18, becomes (mono_of 16 1 1) (of_luma (Band 31 (four (pos 31) (pos 0) (pos 0) (pos 0)))) 0 (65000 ∷ []) (65535 ∷ []))
    ∷ (18, becomes (mono_of 16 1 1) (of_luma (Band 0 (four (negsuc 30) (pos 0) (pos 0) (pos 0)))) 0 (1000 ∷ []) (0 ∷ []))
    ∷ (18, becomes (mono_of 16 4 1) (of_luma (Band 3 (four (pos 1) (negsuc 1) (pos 0) (pos 0)))) 0 (6143 ∷ 6144 ∷ 8191 ∷ 8192 ∷ []) (6143 ∷ 6208 ∷ 8255 ∷ 8064 ∷ []))
    -- 19. The largest magnitude is 15 at depth 9, 31 at depth 10 and at 16: so many ones and no zero. 30 at depth 10: as many, and a zero
    ∷ (19, magnitude 9 15 (replicate 15 true))
    ∷ (19, magnitude 10 31 (replicate 31 true))
    ∷ (19, magnitude 10 30 (replicate 30 true ++ (false ∷ [])))
    ∷ (19, magnitude 16 31 (replicate 31 true))
    -- 20. BF FF FF FF FF FF FF FE 12 80, count 73, at depth 10 and at 16: "10", 31 ones, 30 ones and "0", "0", "0", the signs "0" and "1",
    -- "00101": band, position 5, offsets 31, -30, 0, 0
    ∷ (20, reads (due (mono_of 10 16 16) 0) empty (191 ∷ replicate 6 255 ++ (254 ∷ 18 ∷ 128 ∷ [])) 73 (of_luma (Band 5 (four (pos 31) (negsuc 29) (pos 0) (pos 0)))))
    ∷ (20, reads (due (mono_of 16 16 16) 0) empty (191 ∷ replicate 6 255 ++ (254 ∷ 18 ∷ 128 ∷ [])) 73 (of_luma (Band 5 (four (pos 31) (negsuc 29) (pos 0) (pos 0)))))
    -- 21. 32x32, CTB size 16: CTU 2, the first of its row, has none to its left, though CTU 1 was read before it: "1" copies the upper
    ∷ (21, reads (due (mono 32 32) 2) (encode_entry A ++ (encode_entry B ++ (encode_entry all_off ++ encode_entry all_off))) (128 ∷ []) 1 A)
    -- TWO DEPTHS (document 02, K3)
    -- 22. C7 FB DF C2 00, count 35, at luma 10 and chroma 8. Luma: "11", "0", "0", "0", eight ones and "0", "11": edge, class 3, offsets
    -- 0, 0, 0, -8. Chroma: "11"; Cb "0", seven ones and no zero, "0", "0", "00": class 0, offsets 0, 7, 0, 0; Cr "10", "0", "0", "0":
    -- 1, 0, 0, 0. A reader with 10 for both takes the zero after the seven ones as theirs: class "01" is 1, and Cr has four zeros. One with 8
    -- for both ends luma's ones after seven: class "10" is 2, and the ones that are left are Cb's first. Neither has to refuse anything
    ∷ (22, reads (due (colour_of (depths 10 8) 16 16) 0) empty uneven 35 (record { luma = Edge 3 (four (pos 0) (pos 0) (pos 0) (negsuc 7)); cb = Edge 0 (four (pos 0) (pos 7) (pos 0) (pos 0)); cr = Edge 0 (four (pos 1) (pos 0) (pos 0) (pos 0)) }))
    ∷ (22, reads (due (colour_of (alike 10) 16 16) 0) empty uneven 35 misread)
    ∷ (22, reads (due (colour_of (alike 8) 16 16) 0) empty uneven 35 (record { luma = Edge 2 (four (pos 0) (pos 0) (pos 0) (negsuc 6)); cb = Edge 0 (four (pos 2) (pos 7) (pos 0) (pos 0)); cr = Edge 0 (four (pos 1) (pos 0) (pos 0) (pos 0)) }))
    -- 23. 60 0F E0, count 19, at luma 10 and chroma 8: "0"; "11", four zeros, "00", three zeros, seven ones: luma off, edge of class 0, and of
    -- Cr the last offset is -7. At 10 for both those ones go on: refused 5
    ∷ (23, reads (due (colour_of (depths 10 8) 16 16) 0) empty lost 19 (record { luma = Off; cb = Edge 0 (four (pos 0) (pos 0) (pos 0) (pos 0)); cr = Edge 0 (four (pos 0) (pos 0) (pos 0) (negsuc 6)) }))
    ∷ (23, refuses (due (colour_of (alike 10) 16 16) 0) empty lost 19 5)
    -- 24. Band 31 with offset 7, which acts as 28 at depth 12. At luma 12 and chroma 8: luma's 4090 becomes 4095, and 3967, of band 30, stays; Cb's
    -- and Cr's 250 becomes 255, and 247 stays. At luma 8 and chroma 12 the other way round
    ∷ (24, becomes (colour_of (depths 12 8) 2 1) last 0 (4090 ∷ 3967 ∷ []) (4095 ∷ 3967 ∷ []))
    ∷ (24, becomes (colour_of (depths 12 8) 2 1) last 1 (250 ∷ 247 ∷ []) (255 ∷ 247 ∷ []))
    ∷ (24, becomes (colour_of (depths 12 8) 2 1) last 2 (250 ∷ 247 ∷ []) (255 ∷ 247 ∷ []))
    ∷ (24, becomes (colour_of (depths 8 12) 2 1) last 0 (250 ∷ 247 ∷ []) (255 ∷ 247 ∷ []))
    ∷ (24, becomes (colour_of (depths 8 12) 2 1) last 1 (4090 ∷ 3967 ∷ []) (4095 ∷ 3967 ∷ []))
    ∷ (24, becomes (colour_of (depths 8 12) 2 1) last 2 (4090 ∷ 3967 ∷ []) (4095 ∷ 3967 ∷ []))
    ∷ []

-- EVERY ROW of a table holds
abbrev pub Every : List (ℕ × Case) → Type 0
Every [] = Unit {0}
Every (row ∷ rows) = Holds row.1 × Every rows

-- ---- the proof

-- what is computed of a row
abbrev Computed : Case → Type 0
Computed (magnitude depth v bins) = truncated (largest depth) v ≡ bins
Computed (reads s table bytes count q) =
    (¬ IsRefusal (read_verdict s bytes count table)) × (read_ctu (switches_of s) (left_set s table) (upper_set s table) (bins_of bytes count) ≡ got q [])
Computed (refuses s table bytes count n) = IsRefusal (read_verdict s bytes count table) × (number_in (read_verdict s bytes count table) ≡ n)
Computed (becomes p q i before after) = filtered_plane p (everywhere q) i before ≡ after
Computed (waits s k planes marks table n) =
    IsRefusal (filter_verdict s 0 k planes planes marks table) × (number_in (filter_verdict s 0 k planes planes marks table) ≡ n)

numbered : {rs : List Reason} (v : Verdict rs) {n : ℕ} → IsRefusal v → number_in v ≡ n → First rs n
numbered {rs} v r e = subst (First rs) e (refused_with v r)

shown : (c : Case) → Computed c → Holds c
shown (magnitude depth v bins) e = e
shown (reads s table bytes count q) (c, e) = record {
  clear = accepted (read_verdict s bytes count table) c;
  means = got_is_meant (switches_of s) (left_set s table) (upper_set s table) (bins_of bytes count) e;
  read = e;
}
shown (refuses s table bytes count n) (r, e) = numbered (read_verdict s bytes count table) r e
shown (becomes p q i before after) e = e
shown (waits s k planes marks table n) (r, e) = numbered (filter_verdict s 0 k planes planes marks table) r e

abbrev AllComputed : List (ℕ × Case) → Type 0
AllComputed [] = Unit {0}
AllComputed (row ∷ rows) = Computed row.1 × AllComputed rows

all_shown : (rows : List (ℕ × Case)) → AllComputed rows → Every rows
all_shown [] h = tt
all_shown (row ∷ rows) h = (shown row.1 h.0, all_shown rows h.1)

pub every : Every table
unfolding definitions
every =
    all_shown table
    (refl, (refl, (refl, ((λ h. h, refl), ((λ h. h, refl), ((λ h. h, refl), ((tt, refl), ((tt, refl), ((tt, refl), ((λ h. h, refl), (refl, (refl, (refl, (refl, ((λ h. h, refl), ((λ h. h, refl), ((tt, refl), (refl, (refl, (refl, (refl, (refl, (refl, (refl, (refl, (refl, (refl, (refl, (refl, (refl, (refl, ((λ h. h, refl), ((λ h. h, refl), ((λ h. h, refl), ((λ h. h, refl), ((λ h. h, refl), ((λ h. h, refl), ((λ h. h, refl), ((tt, refl), (refl, (refl, (refl, (refl, (refl, (refl, tt)))))))))))))))))))))))))))))))))))))))))))))
