-- The text of the ring of n keys: each of its processes hands on what key i hides under the key behind it.
use Rattle.std.specs.Prelude.{ℕ, zero, suc, ◌+◌, ◌==◌, if◌then◌else◌, List, [], ◌++◌, codes}
use Rattle.std.specs.Fmt.{decimal}

-- the word of key i: `k` and the digits of i
abbrev pub key : ℕ → List ℕ
key i = codes "k" ++ decimal i

-- the key behind key i in a ring of n: behind the last stands the first
abbrev pub successor : ℕ → ℕ → ℕ
successor n i = if i == n then 1 else i + 1

-- what the keys and the processes need
abbrev pub first_lines : List ℕ → List ℕ
first_lines rest = codes "free c.\nprivate free s.\nfun enc/2.\nreduc dec(enc(x,y),y) -> x.\n" ++ rest

-- the line that declares key i
abbrev pub key_line : ℕ → List ℕ → List ℕ
key_line i rest = codes "private free " ++ (key i ++ (codes ".\n" ++ rest))

-- the lines of so many keys, of which i is the first
abbrev pub key_lines : ℕ → ℕ → List ℕ → List ℕ
key_lines i zero rest = rest
key_lines i (suc more) rest = key_line i (key_lines (i + 1) more rest)

-- what is asked, and the process that sends `s` under the first key
abbrev pub middle_lines : List ℕ → List ℕ
middle_lines rest = codes "query attacker(s).\nprocess\nout(c,enc(s," ++ (key 1 ++ (codes "))\n" ++ rest))

-- the line of the process that decrypts with key i, and encrypts with key j
abbrev pub pass_line : ℕ → ℕ → List ℕ → List ℕ
pass_line i j rest = codes "| !in(c,x); let y = dec(x," ++ (key i ++ (codes ") in out(c,enc(y," ++ (key j ++ (codes "))\n" ++ rest))))

-- the lines of so many processes of the ring of n, of which that of key i is the first
abbrev pub pass_lines : ℕ → ℕ → ℕ → List ℕ → List ℕ
pass_lines n i zero rest = rest
pass_lines n i (suc more) rest = pass_line i (successor n i) (pass_lines n (i + 1) more rest)

-- the ring of n keys
abbrev pub ring_text : ℕ → List ℕ
ring_text n = first_lines (key_lines 1 n (middle_lines (pass_lines n 1 n [])))
