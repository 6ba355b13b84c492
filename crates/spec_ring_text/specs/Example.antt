-- The ring of two keys, written out.
use Rattle.std.specs.Prelude.{ℕ, List, ◌++◌, codes}

abbrev pub two_keys : List ℕ
two_keys =
    codes "free c.\n"
    ++ codes "private free s.\n"
    ++ codes "fun enc/2.\n"
    ++ codes "reduc dec(enc(x,y),y) -> x.\n"
    ++ codes "private free k1.\n"
    ++ codes "private free k2.\n"
    ++ codes "query attacker(s).\n"
    ++ codes "process\n"
    ++ codes "out(c,enc(s,k1))\n"
    ++ codes "| !in(c,x); let y = dec(x,k1) in out(c,enc(y,k2))\n"
    ++ codes "| !in(c,x); let y = dec(x,k2) in out(c,enc(y,k1))\n"
