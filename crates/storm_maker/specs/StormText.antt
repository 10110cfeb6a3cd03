-- The bundle of a number: fixed lines, and then up to sixteen clients with the commands of 300
-- draws each.
use Rattle.std.specs.Prelude.{ℕ, ◌-◌, ◌*◌, ◌/◌, ◌%◌, ◌==◌, if◌then◌else◌, min, List, [], ◌∷◌, ◌++◌, codes}
use Rattle.std.specs.List.{flat_map, range_with_len}
use Rattle.std.specs.Fmt.{decimal}
use Rattle.storm_maker.specs.Draws.{after, drawn}
use Rattle.storm_maker.specs.Fixed.{lines_text, fixed_lines}

-- The commands, each a line: j is the number of the draw among those of its client, k an object's
-- number or a block.
abbrev pub kill_line : List ℕ
kill_line = codes "    kill disk"

abbrev pub let_line : ℕ → ℕ → List ℕ
let_line j k = codes "    let v" ++ (decimal j ++ (codes " = new P " ++ decimal k))

abbrev pub pass_line : ℕ → List ℕ
pass_line j = codes "    call a.p(v" ++ (decimal j ++ (codes ") -> w" ++ decimal j))

abbrev pub size_line : List ℕ
size_line = codes "    call disk.size()"

abbrev pub read_line : ℕ → ℕ → List ℕ
read_line j k = codes "    call disk.read(" ++ (decimal k ++ (codes ") -> w" ++ decimal j))

abbrev pub spin_line : List ℕ
spin_line = codes "    call spin.run(40)"

abbrev pub drop_line : ℕ → List ℕ
drop_line j = codes "    drop w" ++ decimal j

-- the commands of the j-th draw of a client, by what d it drew
unfoldable pub draw_lines : ℕ → ℕ → List (List ℕ)
draw_lines j d =
    if d % 64 == 63 then kill_line ∷ []
    else if d % 4 == 0 then let_line j (d / 64 % 64) ∷ pass_line j ∷ drop_line j ∷ []
    else if d % 4 == 1 then size_line ∷ []
    else if d % 4 == 2 then read_line j (d / 64 % 64) ∷ drop_line j ∷ []
    else spin_line ∷ []

-- the commands of so many draws, which are those after the number x
unfoldable pub commands_after : ℕ → ℕ → List (List ℕ)
commands_after x count = flat_map (λ j. draw_lines j (drawn (after x j))) (range_with_len 1 count)

-- the line that begins client c
abbrev pub head_line : ℕ → List ℕ
head_line c = codes "client c" ++ (decimal c ++ codes " {")

-- the lines of client c, whose draws are those after the number x
abbrev pub client_lines : ℕ → ℕ → List (List ℕ)
client_lines x c = head_line c ∷ (commands_after x 300 ++ codes "}" ∷ [])

-- the number that client c of n begins after: each goes on where the one before it stopped
abbrev pub begins_after : ℕ → ℕ → ℕ
begins_after n c = after n (300 * (c - 1))

-- the lines of the first so many clients of n
unfoldable pub clients_lines : ℕ → ℕ → List (List ℕ)
clients_lines n count = flat_map (λ c. client_lines (begins_after n c) c) (range_with_len 1 count)

-- the bundle of n
abbrev pub storm_text : ℕ → List ℕ
storm_text n = lines_text (fixed_lines ++ clients_lines n (min n 16))
