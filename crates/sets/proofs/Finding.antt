-- What is found in an entry: the set that it encodes, which is the one stored there, or that it is not sound; and one component as its bytes say it.
use mathlib.Core.Path.{◌≡◌, refl, sym, ap, ap₂, ◌∙◌, subst}
use mathlib.Core.List.{List, ◌++◌}
use Rattle.std.specs.Prelude.{Option, None, Some}
use Prim.Native.Nat.{ℕ, zero, suc, ◌+◌, ◌*◌, ◌≤◌}
use lib.ListN.{length, take, drop}
use Rattle.standard.specs.declared.CtuSet.{CtuSet}
use Rattle.standard.specs.declared.Switches.{Switches}
use Rattle.standard.specs.Sets.{Valid}
use Rattle.standard.specs.Table.{entry_size, encode, entry, entered, Sound, decode, stored, offsets_at}
use Rattle.standard.proofs.Entries.{entry_set, stored_sound, sound_same, stored_same, valid_bytes}
use Rattle.sets.specs.declared.SetBytes.{SetBytes}
use Rattle.sets.specs.Entries.{list_of, says, set_of, Codes, Holds, Finds}
use Rattle.sets.proofs.Bytes.{parts, parts_say, parts_code, code_parts, parts_set}
use Rattle.sets.proofs.Lists.{entry_read}

-- ---- the bytes of an entry read

module _ (table : List ℕ) (k : ℕ) (b : SetBytes)
    (luma : list_of b.luma ≡ take 6 (drop (entry_size * k) table)) (cb : list_of b.cb ≡ take 6 (drop (entry_size * k + 6) table)) (cr : list_of b.cr ≡ take 6 (drop (entry_size * k + 12) table)) where
  entry_parts : entry table k ≡ parts b
  entry_parts = entry_read table k ∙ sym (ap₂ ◌++◌ luma (ap₂ ◌++◌ cb cr))

  stored_parts : stored table k ≡ set_of b
  unfolding stored
  stored_parts = ap decode entry_parts ∙ parts_say b

  pub luma_says : says b.luma ≡ offsets_at table 0 k
  luma_says = ap (λ (q : CtuSet). q.luma) (sym stored_parts)

  pub cb_says : says b.cb ≡ offsets_at table 1 k
  cb_says = ap (λ (q : CtuSet). q.cb) (sym stored_parts)

  pub cr_says : (i : ℕ) → ¬ (i ≡ 0) → ¬ (i ≡ 1) → says b.cr ≡ offsets_at table i k
  cr_says zero n m = absurd (n refl)
  cr_says (suc zero) n m = absurd (m refl)
  cr_says (suc (suc i)) n m = ap (λ (q : CtuSet). q.cr) (sym stored_parts)

  module _ {s : Switches} where
    -- a sound entry's set is what they say
    sound_set : (sound : Sound s table k) → sound.set ≡ set_of b
    sound_set sound = parts_set b sound.rules (sym entry_parts ∙ sound.bytes ∙ entry_set sound.set)

    pub no_code : ¬ Codes b → ¬ Sound s table k
    no_code n sound = n (code_parts b (sym entry_parts ∙ sound.bytes ∙ entry_set sound.set ∙ ap encode (sound_set sound)))

    pub not_ruled : ¬ Valid s (set_of b) → ¬ Sound s table k
    not_ruled n sound = n (subst (Valid s) (sound_set sound) sound.rules)

    pub holds : Codes b → Valid s (set_of b) → Holds s table k (set_of b)
    holds e v = record { bytes = entry_parts ∙ parts_code b e ∙ sym (entry_set (set_of b)); rules = v }

-- for the function that goes by the component
pub ruleset by_component = (luma_says, cb_says, cr_says)

-- ---- what is found is what is stored, and nothing else can be

pub sound_of : {s : Switches} {table : List ℕ} {k : ℕ} {q : CtuSet} → Holds s table k q → Sound s table k
sound_of {q} h = record { set = q; rules = h.rules; bytes = h.bytes }

pub found_stored : {s : Switches} {table : List ℕ} {k : ℕ} {q : CtuSet} → Holds s table k q → stored table k ≡ q
unfolding sound_of
found_stored h = stored_sound (sound_of h)

pub found_sound : (s : Switches) (table : List ℕ) (k : ℕ) (r : Option CtuSet) → Sound s table k → Finds s table k r → r ≡ Some (stored table k)
found_sound s table k (Some q) sound f = ap Some (sym (found_stored f))
found_sound s table k None sound f = absurd (f sound)

-- a set within the rules that was put is found
pub put_found : (s : Switches) (table : List ℕ) (k : ℕ) (q : CtuSet) (r : Option CtuSet) → entry_size * k + entry_size ≤ length table → Valid s q → Finds s (entered table k q) k r → r ≡ Some q
put_found s table k q r room v f =
    found_sound s (entered table k q) k r (sound_same table k q room v) f ∙ ap Some (stored_same table k q room (valid_bytes s v))
