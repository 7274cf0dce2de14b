-- docs/PIPE.md, "A request": the byte that stands for a kind.
use Rattle.std.specs.Prelude.{◌≡◌, ℕ, ◌<◌, Result, MatchResult}
use Rattle.clerk_reply.specs.declared.request.Request.{Request}
use Rattle.clerk_reply.specs.declared.request.UnknownKind.{UnknownKind}

abbrev pub code_of : Request → ℕ
code_of Request.Hello = 0
code_of Request.Read = 1
code_of Request.Converted = 2
code_of Request.Checked = 3
code_of Request.Written = 4
code_of Request.Faces = 5
code_of Request.Text = 6

-- the kind with this code, or a code that no kind has
abbrev pub Decodes : ℕ → Result Request UnknownKind → Type 0
Decodes code r = MatchResult r (λ kind. code_of kind ≡ code) (λ e. (e.0 ≡ code) × (6 < code))
