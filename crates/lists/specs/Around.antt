-- Places of a ring, counted on past the last.
use Rattle.std.specs.Prelude.{ℕ, ◌-◌, cond, List, ltb, length, get_or}

unfoldable pub wrap : ℕ → ℕ → ℕ
wrap n j = cond (ltb j n) j (j - n)

-- element j of the ring g, and d where it has none
unfoldable pub around {ℓ} : {A : Type ℓ} → List A → ℕ → A → A
unfolding wrap
around g j d = get_or g (wrap (length g) j) d
