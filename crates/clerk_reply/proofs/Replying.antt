-- Bytes that are put as a reply: there is room, and they are as many as the kind says.
use mathlib.Core.List.{List, ◌++◌}
use mathlib.Core.Path.{◌≡◌}
use Prim.Native.Nat.{ℕ, ◌+◌, ◌*◌, ◌≤◌}
use native.Mathlib.Omega.{arith}
use lib.IntN.{ℤ}
use lib.ListN.{length, length-append}
use Rattle.desk_lines.specs.Put.{Fits, Puts}
use Rattle.desk_lines.proofs.Putting.{puts_as}
use Rattle.clerk_words.specs.Words.{word_size, words_bytes, numbers_bytes}
use Rattle.clerk_words.proofs.Long.{words_long, numbers_long}
use Rattle.clerk_reply.specs.Replies.{reply_room, LongEnough, Replies}

-- ---- how many bytes the parts are

pub said_long : (ws bs : List ℕ) → length (words_bytes ws ++ bs) ≡ word_size * length ws + length bs
said_long ws bs = omega (arith, length-append (words_bytes ws) bs, words_long ws)

pub drawing_long : (ws : List ℕ) (zs : List ℤ) (bs : List ℕ)
    → length (words_bytes ws ++ numbers_bytes zs ++ bs) ≡ word_size * length ws + word_size * length zs + length bs
drawing_long ws zs bs =
    omega (arith, length-append (words_bytes ws ++ numbers_bytes zs) bs, said_long ws (numbers_bytes zs), numbers_long zs)

pub report_long : (ws us bs vs : List ℕ)
    → length (words_bytes ws ++ words_bytes us ++ bs ++ words_bytes vs)
    ≡ word_size * length ws + word_size * length us + length bs + word_size * length vs
report_long ws us bs vs =
    omega (
      arith,
      length-append (words_bytes ws ++ words_bytes us ++ bs) (words_bytes vs),
      length-append (words_bytes ws ++ words_bytes us) bs,
      said_long ws (words_bytes us),
      words_long us,
      words_long vs,
    )

-- ---- a reply

module _ {bytes room₀ : List ℕ} {n : ℕ} where
  pub fits-any : length bytes ≡ n → n ≤ reply_room → LongEnough room₀ → Fits 0 bytes room₀
  fits-any e h l = record { fits = omega (arith, l.long) }

  -- the bytes that were put are the reply's
  pub replied : {reply room : List ℕ} {r : ℕ} → reply ≡ bytes → length bytes ≡ n → Puts room₀ 0 bytes room r
      → Replies reply n room₀ room r
  replied e l p = record { puts = puts_as e p; sized = omega (arith, p.next_is) }

  -- a reply by another name
  pub replied_as : {reply room : List ℕ} {r : ℕ} → reply ≡ bytes → Replies bytes n room₀ room r → Replies reply n room₀ room r
  replied_as e h = record { puts = puts_as e h.puts; sized = h.sized }
