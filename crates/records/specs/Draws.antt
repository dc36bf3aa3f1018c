-- The numbers of xorshift32.
use Rattle.std.specs.Prelude.{ℕ, ◌*◌, ◌/◌, ◌%◌, ◌^◌, bit_xor}

-- the number after x: three shifts, of 13 up, 17 down and 5 up, each put on what is there
abbrev pub drawn_after : ℕ → ℕ
drawn_after x =
    let a = bit_xor x (x * 2 ^ 13 % 2 ^ 32) in
    let b = bit_xor a (a / 2 ^ 17) in
    bit_xor b (b * 2 ^ 5 % 2 ^ 32)
