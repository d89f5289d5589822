mod GoodTexts
