-- The word with a number: each arm's number is that of one word, and every other number that of none.
use mathlib.Core.Path.{refl, sym}
use Rattle.basics.specs.Text.{octets}
use Rattle.reader.specs.Key.{key_from, key_of}
use Rattle.packet.specs.Table.{words, word_of}
use Rattle.reader.proofs.KeyLaws.{hit, miss}
use Rattle.reader.proofs.words.word_by.Goals as goal

pub returns-in-374 : goal.returns-in-374
unfolding word_of key_from key_of
returns-in-374 c w h = hit (octets "v") w c.args.k refl h c.in-374.is

pub returns-in-358 : goal.returns-in-358
unfolding word_of key_from key_of
returns-in-358 c w h = hit (octets "f") w c.args.k refl h c.in-358.is

pub returns-in-357 : goal.returns-in-357
unfolding word_of key_from key_of
returns-in-357 c w h = hit (octets "e") w c.args.k refl h c.in-357.is

pub returns-in-5929987949 : goal.returns-in-5929987949
unfolding word_of key_from key_of
returns-in-5929987949 c w h = hit (octets "atom") w c.args.k refl h c.in-5929987949.is

pub returns-in-24407920 : goal.returns-in-24407920
unfolding word_of key_from key_of
returns-in-24407920 c w h = hit (octets "top") w c.args.k refl h c.in-24407920.is

pub returns-in-23162468 : goal.returns-in-23162468
unfolding word_of key_from key_of
returns-in-23162468 c w h = hit (octets "and") w c.args.k refl h c.in-23162468.is

pub returns-in-94066 : goal.returns-in-94066
unfolding word_of key_from key_of
returns-in-94066 c w h = hit (octets "or") w c.args.k refl h c.in-94066.is

pub returns-in-6231649637 : goal.returns-in-6231649637
unfolding word_of key_from key_of
returns-in-6231649637 c w h = hit (octets "some") w c.args.k refl h c.in-6231649637.is

pub returns-in-23161964 : goal.returns-in-23161964
unfolding word_of key_from key_of
returns-in-23161964 c w h = hit (octets "all") w c.args.k refl h c.in-23161964.is

pub returns-in-23686512 : goal.returns-in-23686512
unfolding word_of key_from key_of
returns-in-23686512 c w h = hit (octets "imp") w c.args.k refl h c.in-23686512.is

pub returns-in-6113551988 : goal.returns-in-6113551988
unfolding word_of key_from key_of
returns-in-6113551988 c w h = hit (octets "left") w c.args.k refl h c.in-6113551988.is

pub returns-in-1590906284148 : goal.returns-in-1590906284148
unfolding word_of key_from key_of
returns-in-1590906284148 c w h = hit (octets "right") w c.args.k refl h c.in-1590906284148.is

pub returns-in-24474469 : goal.returns-in-24474469
unfolding word_of key_from key_of
returns-in-24474469 c w h = hit (octets "use") w c.args.k refl h c.in-24474469.is

pub returns-in-1591107937651 : goal.returns-in-1591107937651
unfolding word_of key_from key_of
returns-in-1591107937651 c w h = hit (octets "rules") w c.args.k refl h c.in-1591107937651.is

pub returns-in-1599429832051 : goal.returns-in-1599429832051
unfolding word_of key_from key_of
returns-in-1599429832051 c w h = hit (octets "terms") w c.args.k refl h c.in-1599429832051.is

pub returns-in_default : goal.returns-in_default
unfolding word_of key_from key_of
returns-in_default c w h = sym (miss words w c.args.k (Unit {0}) h c.in_default.in_default-own.rest).1
