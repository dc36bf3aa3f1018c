-- What the laws of a sink give of bins that stand in a row.
use mathlib.Core.Path.{◌≡◌, sym, subst}
use mathlib.Core.Bool.{Bool}
use mathlib.Core.List.{List, ◌++◌}
use Prim.Native.Nat.{ℕ}
use native.Mathlib.Omega.{arith}
use lib.ListN.{length, length-append}
use Rattle.sink.specs.Sinks.{SinkLaws}

module _ {S : Type 0} {has_room : S → ℕ → Type 0} {takes : S → List Bool → S → Type 0} (laws : SinkLaws has_room takes) where
  -- the same bins, and the same room
  pub takes_as : {s t : S} {a b : List Bool} → a ≡ b → takes s a t → takes s b t
  takes_as {s} {t} e p = subst (λ (w : List Bool). takes s w t) e p

  pub room_as : {s : S} {m n : ℕ} → m ≡ n → has_room s n → has_room s m
  room_as {s} e r = subst (has_room s) (sym e) r

  -- room for bins that stand in a row is room for the first, and then for the others
  pub room_first : {s : S} (a b : List Bool) → has_room s (length (a ++ b)) → has_room s (length a)
  room_first a b r = laws.fewer {n = length (a ++ b)} (omega (arith, length-append a b)) r

  pub room_rest : {s t : S} (a b : List Bool) → has_room s (length (a ++ b)) → takes s a t → has_room t (length b)
  room_rest a b r p = laws.left {a = a} (room_as (sym (length-append a b)) r) p

  -- four in a row
  module _ (a b c d : List Bool) {s : S} (r : has_room s (length (a ++ (b ++ (c ++ d))))) where
    pub room_1 : has_room s (length a)
    room_1 = room_first a (b ++ (c ++ d)) r

    pub room_2 : {t : S} → takes s a t → has_room t (length b)
    room_2 p = room_first b (c ++ d) (room_rest a (b ++ (c ++ d)) r p)

    pub room_3 : {t u : S} → takes s a t → takes t b u → has_room u (length c)
    room_3 p q = room_first c d (room_rest b (c ++ d) (room_rest a (b ++ (c ++ d)) r p) q)

    pub room_4 : {t u v : S} → takes s a t → takes t b u → takes u c v → has_room v (length d)
    room_4 p q x = room_rest c d (room_rest b (c ++ d) (room_rest a (b ++ (c ++ d)) r p) q) x
