-- What breaks in one set breaks something in another.
use Rattle.ranked.specs.Entries.{Entry}

-- where an entry of the one is broken, one of the other is
abbrev pub Moves : (Entry → Type 0) → (Entry → Type 0) → Type 0
Moves A B = (e : Entry) → A e → (o : Entry) × B o
