-- A page: the bytes that a program writes, put one behind the other. It has room for `room` of them.
use Rattle.std.specs.Prelude.{ℕ, ◌+◌, ◌-◌, ◌≡◌, List, ◌++◌, drop, length, take}
use Rattle.line.specs.declared.Page.{Page}

abbrev pub room : ℕ
room = 196608

-- The bytes that a page has.
abbrev pub bytes_of : Page → List ℕ
bytes_of p = take p.len p.bytes

-- Behind the bytes of a page stand as many of `more` as it has room for; the others are lost.
unfoldable pub page_with : List ℕ → List ℕ → List ℕ
page_with page more = page ++ take (room - length page) more

-- The page then, byte for byte: what it had, what is put, and behind that what stood there before.
unfoldable pub put_on : Page → List ℕ → Page
put_on p more =
    let has = bytes_of p in
    let put = take (room - length has) more in
    record { bytes = has ++ put ++ drop (length has + length put) p.bytes; len = p.len + length put }

-- So what is put fixes the whole page, its room too.
abbrev pub Put : Page → List ℕ → Page → Type 0
Put before more then = then ≡ put_on before more
