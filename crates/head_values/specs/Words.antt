-- The words of document 01's answers, each named as it is written there, with `_` for `-`.

pub data Word : Type 0 where
  ticket claimed done settled view parked completion link report stats heads refused : Word
  installed provisional previous spare : Word
  ready unprepared superseded undelivered abandoned cold carried : Word
  linked no_parent not_consecutive hash_unknown hash_mismatch : Word
  no_hash rpc decode none : Word
